-- A merge of lists in order, part of the way.
use Rattle.std.proofs.Common.{◌≡◌, ◌+◌, ◌<◌, ◌^◌, List, [], ◌∷◌, ◌++◌, length, refl, sym, ap, ◌∙◌, subst, append_assoc, arith, length-append}
use Rattle.std.proofs.lemmas.List.{append-nil}
use Rattle.std.specs.List.{AllZip}
use Rattle.insert_points.specs.declared.call.Event.{Event}
use Rattle.tool_law.specs.Law.{Merges}
use Rattle.ordered_merge.specs.Merged.{joined}

-- `is_of ys p`: p is a piece of ys
module _ {P L S : Type 0} (is_of : List Event → P → Type 0) (stands : List Event → L → Type 0) (is_value : List Event → S → Type 0) where
  -- s is the value of a first part of whole, and the pieces are of lists that make up the rest
  pub record IsHalfway (whole : List Event) (s : S) (pieces : List P) : Type 0 where
    pub done : List Event
    pub todo : List (List Event)
    pub value : is_value done s
    pub others : AllZip is_of todo pieces
    pub all : done ++ joined todo ≡ whole

  pub halfway_start : (xs : List Event) (xss : List (List Event)) (s : S) (pieces : List P) → is_value xs s → AllZip is_of xss pieces → IsHalfway (xs ++ joined xss) s pieces
  halfway_start xs xss s pieces v z = record { done = xs; todo = xss; value = v; others = z; all = refl }

  bound : (done ys : List Event) (todo : List (List Event)) (whole : List Event) → done ++ joined (ys ∷ todo) ≡ whole → length whole < 2 ^ 50 → length done + length ys < 2 ^ 50
  bound done ys todo whole all room =
      let long : length whole ≡ length done + (length ys + length (joined todo)) = ap length (sym all) ∙ simp length-append in
      omega arith

  module _ (whole : List Event) (s t : S) (p : P) (l : L) (rest : List P) (room : length whole < 2 ^ 50) (gives : (ys : List Event) → is_of ys p → stands ys l) where
    step : Merges stands is_value s l t → (done : List Event) (todo : List (List Event)) → is_value done s → AllZip is_of todo (p ∷ rest) → done ++ joined todo ≡ whole → IsHalfway whole t rest
    step m done [] v z all = absurd z
    step m done (ys ∷ todo) v z all = record {
      done = done ++ ys;
      todo = todo;
      value = m done ys (bound done ys todo whole all room) v (gives ys z.0);
      others = z.1;
      all = append_assoc done ys (joined todo) ∙ all;
    }

    pub halfway_step : Merges stands is_value s l t → IsHalfway whole s (p ∷ rest) → IsHalfway whole t rest
    halfway_step m h = step m h.done h.todo h.value h.others h.all

  last : (done : List Event) (todo : List (List Event)) (whole : List Event) (s : S) → is_value done s → AllZip is_of todo [] → done ++ joined todo ≡ whole → is_value whole s
  last done [] whole s v z all = let P' : List Event → Type 0 = λ xs. is_value xs s in subst P' (sym (append-nil done) ∙ all) v
  last done (ys ∷ todo) whole s v z all = absurd z

  pub halfway_end : (whole : List Event) (s : S) → IsHalfway whole s [] → is_value whole s
  halfway_end whole s h = last h.done h.todo whole s h.value h.others h.all
