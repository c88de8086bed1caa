use Rattle.std.proofs.Common.{◌≡◌, ℕ, ◌/◌, ◌%◌, List, ◌++◌, w64, rules, ap, ◌∙◌}
use Rattle.std.specs.Int.{to_le_bytes}
use Rattle.std.proofs.Math.Nat.{div-div-eq-div-mul}
use Rattle.guest_model.specs.Bytes.{low_bytes}
use Rattle.syscall_layer.proofs.clock.timespec.Goals as goal

eight_bytes : (n : ℕ) → to_le_bytes w64 n ≡ low_bytes 8 n
eight_bytes n = simp div-div-eq-div-mul

pub returns : goal.returns
returns c =
    let seconds = c.args.moment / 1000000000 in
    let rest = c.args.moment % 1000000000 in
    let bytes : c.extend_from_slice-2.new.self.items ≡ to_le_bytes w64 seconds ++ to_le_bytes w64 rest = search rules in
    bytes ∙ (ap (λ (xs : List ℕ). xs ++ to_le_bytes w64 rest) (eight_bytes seconds) ∙ ap (λ (xs : List ℕ). low_bytes 8 seconds ++ xs) (eight_bytes rest))
