-- Locals that take events.
use Rattle.std.proofs.Common.{◌≡◌, ◌+◌, ◌<◌, ◌^◌, List, [], ◌++◌, length, sym, subst, append_assoc, arith, length-append}
use Rattle.std.proofs.lemmas.List.{append-nil}
use Rattle.insert_points.specs.declared.call.Event.{Event}
use Rattle.tool_step.specs.Steps.{TakesEvents}

module _ {L : Type 0} (stands : List Event → L → Type 0) where
  pub takes_none : (l : L) → TakesEvents stands [] l l
  takes_none l = λ ys room h. subst (λ (es : List Event). stands es l) (sym (append-nil ys)) h

  pub takes_join : (xs ys : List Event) (a b c : L) → TakesEvents stands xs a b → TakesEvents stands ys b c → TakesEvents stands (xs ++ ys) a c
  takes_join xs ys a b c h k = λ zs room start.
      let both : length (xs ++ ys) ≡ length xs + length ys = simp length-append in
      let behind : length (zs ++ xs) ≡ length zs + length xs = simp length-append in
      let first : length zs + length xs < 2 ^ 50 = omega (arith, both, room) in
      let second : length (zs ++ xs) + length ys < 2 ^ 50 = omega (arith, both, behind, room) in
      subst (λ (es : List Event). stands es c) (append_assoc zs xs ys) (k (zs ++ xs) second (h zs first start))

  pub takes_as : (xs ys : List Event) (a b : L) → xs ≡ ys → TakesEvents stands xs a b → TakesEvents stands ys a b
  takes_as xs ys a b same h = subst (λ (es : List Event). TakesEvents stands es a b) same h
