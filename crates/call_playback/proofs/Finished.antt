-- The machine behind a call.
use Rattle.std.proofs.Common.{◌≡◌, ℕ, refl, ap, ◌∙◌}
use Rattle.guest_model.specs.Call.{finished, with_space}
use Rattle.guest_model.specs.Machine.{Machine}
use Rattle.guest_model.specs.Space.{Space}

-- its memory is as before
space_of_finished : (m : Machine) (answer : ℕ) → (finished m answer).space ≡ m.space
unfolding finished
space_of_finished m answer = refl

pub same_space : (m next : Machine) (answer : ℕ) → next ≡ finished m answer → next.space ≡ m.space
same_space m next answer is = ap (λ (k : Machine). k.space) is ∙ space_of_finished m answer

-- another memory, before or after
with_finished : (m : Machine) (answer : ℕ) (s : Space) → with_space (finished m answer) s ≡ finished (with_space m s) answer
unfolding finished
with_finished m answer s = refl

pub finished_with : (m next : Machine) (answer : ℕ) (s given : Space) → next ≡ finished m answer → s ≡ given → with_space next s ≡ finished (with_space m given) answer
finished_with m next answer s given is same =
    ap (λ (k : Machine). with_space k s) is ∙ (ap (with_space (finished m answer)) same ∙ with_finished m answer given)
