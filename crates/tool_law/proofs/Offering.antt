-- What a plan calls while the code is offered.
use Rattle.std.proofs.Common.{◌≡◌, inl, inr, ◌+◌, ◌*◌, ◌≤◌, ◌<◌, ◌^◌, ◌∙◌, ◌==◌, ◌-◌, ◌/◌, ◌%◌, ℕ, zero, suc, Bool, true, false, List, [], ◌∷◌, ap, arith, drop, length, refl, sym, add-one, sub-one, if◌then◌else◌}
use Rattle.std.specs.Prelude.{All, Option, None, Some, option_and_then, slice_get}
use Rattle.std.specs.List.{position_from}
use Rattle.std.proofs.Math.Seq.{drop-length}
use Rattle.std.proofs.lemmas.Option.{option_and_then_some, slice_get_within}
use Rattle.elf_load.specs.Image.{FunctionFields}
use Rattle.std.proofs.lemmas.Bool.Decides.{nat_tests}
use Rattle.rv_isa.specs.Table.{Fields}
use Rattle.ins_views.specs.Blocks.{block_length}
use Rattle.ins_views.specs.Memory.{lies_in}
use Rattle.ins_views.specs.Views.{CodeFields, IsCode, ViewFields, code_at, first_word, ins_at, word_at}
use Rattle.ins_views.proofs.Blocks.{All-find}
use Rattle.ins_views.proofs.Shapes.{find-holds}
use Rattle.insert_points.specs.Events.{Called}
use Rattle.insert_points.specs.Plan.{PlanFields, called_after, called_at, nothing_called, with_calls}
use Rattle.insert_points.specs.Planned.{plan_calls}
use Rattle.insert_points.specs.declared.call.Point.TheVariants.{Before}
use Rattle.insert_points.specs.declared.call.Call.{Call}
use Rattle.insert_points.specs.declared.call.Thing.{Thing}
use Rattle.insert_points.specs.declared.call.Thing.TheVariants as things
use Rattle.tool_law.specs.Planning.{IsOpen, called_of, called_offered, code_called, routine_calls}

-- a segment's words lie in the user's memory
pub code_end : (c : CodeFields) → IsCode c → first_word c.start + 4 * length c.words < 2 ^ 32 - 8
code_end c h = let fits = h.fits in let below = h.below in omega arith

code_fits : (c : CodeFields) (j : ℕ) → IsCode c → j < length c.words → first_word c.start + 4 * j < 2 ^ 32
code_fits c j h within = let end = code_end c h in omega arith

drop_at : {X : Type 0} (k : ℕ) (xs : List X) (x : X) → Some x ≡ slice_get xs k → drop k xs ≡ x ∷ drop (suc k) xs
drop_at k [] x e = cc
drop_at zero (y ∷ ys) x e = let h : x ≡ y = cc in ap (λ z. z ∷ ys) (sym h)
drop_at (suc k) (y ∷ ys) x e = drop_at k ys x e

module _ (calls : Thing → List Call) (views : ViewFields) where
  -- where no instruction stands nothing is called
  pub code_none : (a : ℕ) → ins_at views a ≡ None → code_called calls views a ≡ nothing_called
  unfolding code_called called_of
  code_none a e = rw e refl

  offered_some : (a : ℕ) (i : Fields) (called : Called) → ins_at views a ≡ Some i → called.routine ≡ []
      → called_offered calls a (Some i) (block_length views a) called ≡ code_called calls views a
  unfolding code_called called_of
  offered_some a i called e r = rw (e, r) refl

  open_routine : (a : ℕ) (called : Called) → IsOpen calls views a called → called.routine ≡ []
  unfolding code_called
  open_routine a called (inl e) = ap (λ (c : Called). c.routine) e
  open_routine a called (inr e) = ap (λ (c : Called). c.routine) e

  -- once it was offered, all that the code's things ask for is called
  pub offered_open : (a : ℕ) (called : Called) → IsOpen calls views a called
      → called_offered calls a (ins_at views a) (block_length views a) called ≡ code_called calls views a
  offered_open a called h = go (ins_at views a) refl
    where
      closed : ins_at views a ≡ None → IsOpen calls views a called → called ≡ code_called calls views a
      closed e (inl f) = f ∙ sym (code_none a e)
      closed e (inr f) = f

      go : (o : Option Fields) → ins_at views a ≡ o → called_offered calls a o (block_length views a) called ≡ code_called calls views a
      go None e = closed e h
      go (Some i) e = offered_some a i called e (open_routine a called h)

  -- the instruction at pc and its block were offered
  pub given : (a pc len : ℕ) (i : Fields) (old mid new : Called) → ins_at views pc ≡ Some i → len ≡ block_length views pc
      → mid ≡ called_after (things.Ins pc i) (calls (things.Ins pc i)) a old
      → new ≡ called_after (things.Block (record { head = pc; len = len })) (calls (things.Block (record { head = pc; len = len }))) a mid
      → new ≡ (if a == pc then called_offered calls a (ins_at views a) (block_length views a) old else old)
  given a pc len i old mid new e f m n = go (a == pc) refl
    where
      block : Thing
      block = things.Block (record { head = pc; len = len })

      go : (t : Bool) → (a == pc) ≡ t → new ≡ (if t then called_offered calls a (ins_at views a) (block_length views a) old else old)
      go true t =
          let same : a ≡ pc = grind (arith, nat_tests) in
          let m' : mid ≡ with_calls (things.Ins pc i) (calls (things.Ins pc i)) old = rw t at m in
          let n' : new ≡ with_calls block (calls block) mid = rw t at n in
          rw (same, e, ← f) (n' ∙ ap (with_calls block (calls block)) m')
      go false t =
          let m' : mid ≡ old = rw t at m in
          let n' : new ≡ mid = rw t at n in
          n' ∙ m'

  -- what is called once the address pc was offered
  abbrev pub IsGiven : (pc : ℕ) (mid new : PlanFields) → Type 0
  IsGiven pc mid new = (a : ℕ) → a < 2 ^ 32
      → called_at new a ≡ (if a == pc then called_offered calls a (ins_at views a) (block_length views a) (called_at mid a) else called_at mid a)

  given_here : (pc a : ℕ) (mid new : PlanFields) → IsGiven pc mid new → a < 2 ^ 32 → a ≡ pc → IsOpen calls views a (called_at mid a)
      → called_at new a ≡ code_called calls views a
  given_here pc a mid new g fits same h =
      let t : (a == pc) ≡ true = grind (arith, nat_tests) in
      let e : called_at new a ≡ called_offered calls a (ins_at views a) (block_length views a) (called_at mid a) = rw t at (g a fits) in
      e ∙ offered_open a (called_at mid a) h

  given_open : (pc a : ℕ) (mid new : PlanFields) → IsGiven pc mid new → a < 2 ^ 32 → IsOpen calls views a (called_at mid a) → IsOpen calls views a (called_at new a)
  given_open pc a mid new g fits h = go (a == pc) refl
    where
      go : (t : Bool) → (a == pc) ≡ t → IsOpen calls views a (called_at new a)
      go true t = inr (given_here pc a mid new g fits (grind (arith, nat_tests)) h)
      go false t = let e : called_at new a ≡ called_at mid a = rw t at (g a fits) in rw e h

  given_keeps : (pc a : ℕ) (mid new : PlanFields) → IsGiven pc mid new → a < 2 ^ 32 → called_at mid a ≡ code_called calls views a
      → called_at new a ≡ code_called calls views a
  given_keeps pc a mid new g fits h = go (a == pc) refl
    where
      go : (t : Bool) → (a == pc) ≡ t → called_at new a ≡ code_called calls views a
      go true t = given_here pc a mid new g fits (grind (arith, nat_tests)) (inr h)
      go false t = let e : called_at new a ≡ called_at mid a = rw t at (g a fits) in e ∙ h

  -- the words of a segment from the k-th on were offered
  pub record IsOfferedFrom (first words k : ℕ) (old new : PlanFields) : Type 0 where
    pub opened : (a : ℕ) → a < 2 ^ 32 → IsOpen calls views a (called_at old a) → IsOpen calls views a (called_at new a)
    pub keeps : (a : ℕ) → a < 2 ^ 32 → called_at old a ≡ code_called calls views a → called_at new a ≡ code_called calls views a
    pub given : (j : ℕ) → k ≤ j → j < words → IsOpen calls views (first + 4 * j) (called_at old (first + 4 * j))
        → called_at new (first + 4 * j) ≡ code_called calls views (first + 4 * j)

  pub offered_first : (first words : ℕ) (plan : PlanFields) → IsOfferedFrom first words words plan plan
  offered_first first words plan = record { opened = λ a fits h. h; keeps = λ a fits h. h; given = λ j low high h. absurd (omega arith) }

  pub offered_step : (first words k : ℕ) (old mid new : PlanFields) → first + 4 * words < 2 ^ 32 → IsOfferedFrom first words (k + 1) old mid
      → IsGiven (first + 4 * k) mid new → IsOfferedFrom first words k old new
  offered_step first words k old mid new room h g = record {
    opened = λ a fits o. given_open (first + 4 * k) a mid new g fits (h.opened a fits o);
    keeps = λ a fits o. given_keeps (first + 4 * k) a mid new g fits (h.keeps a fits o);
    given = λ j low high o. go j low high o (j == k) refl;
  }
    where
      go : (j : ℕ) → k ≤ j → j < words → IsOpen calls views (first + 4 * j) (called_at old (first + 4 * j)) → (t : Bool) → (j == k) ≡ t
          → called_at new (first + 4 * j) ≡ code_called calls views (first + 4 * j)
      go j low high o true t =
          let same : j ≡ k = grind (arith, nat_tests) in
          let fits : first + 4 * j < 2 ^ 32 = omega arith in
          given_here (first + 4 * k) (first + 4 * j) mid new g fits (ap (λ n. first + 4 * n) same) (h.opened _ fits o)
      go j low high o false t =
          let other : k + 1 ≤ j = grind (arith, nat_tests) in
          let fits : first + 4 * j < 2 ^ 32 = omega arith in
          given_keeps (first + 4 * k) (first + 4 * j) mid new g fits (h.given j other high o)

  -- the code of a segment was offered
  abbrev pub IsCovered : (plan : PlanFields) (c : CodeFields) → Type 0
  IsCovered plan c = (j : ℕ) → j < length c.words
      → (first_word c.start + 4 * j < 2 ^ 32) × (called_at plan (first_word c.start + 4 * j) ≡ code_called calls views (first_word c.start + 4 * j))

  covered_at : (plan : PlanFields) (c : CodeFields) (a : ℕ) (i : Fields) → IsCovered plan c → lies_in c.start c.size a ≡ true → a % 4 ≡ 0 → word_at c a ≡ Some i
      → called_at plan a ≡ code_called calls views a
  covered_at plan c a i h lies aligned e =
      option_and_then_some (λ word. word) (slice_get c.words ((a - first_word c.start) / 4)) i e
      (λ word at here. let within = slice_get_within c.words ((a - first_word c.start) / 4) word at in
      let start : c.start ≤ a = grind (arith, nat_tests) in
      let place : first_word c.start + 4 * ((a - first_word c.start) / 4) ≡ a = omega arith in
      rw place at ((h ((a - first_word c.start) / 4) within).1))

  -- each address at which an instruction stands is one of a segment's
  pub covered_all : (plan : PlanFields) (a : ℕ) → All (IsCovered plan) views.code → IsOpen calls views a (called_at plan a)
      → called_at plan a ≡ code_called calls views a
  unfolding ins_at
  covered_all plan a all o = go (ins_at views a) refl
    where
      closed : ins_at views a ≡ None → IsOpen calls views a (called_at plan a) → called_at plan a ≡ code_called calls views a
      closed e (inl f) = f ∙ sym (code_none a e)
      closed e (inr f) = f

      found : (i : Fields) (t : Bool) → (a % 4 == 0) ≡ t → ins_at views a ≡ Some i → called_at plan a ≡ code_called calls views a
      found i true f e =
          let aligned : a % 4 ≡ 0 = grind (arith, nat_tests) in
          let there : option_and_then (λ c. word_at c a) (code_at views a) ≡ Some i = rw f at e in
          option_and_then_some (λ c. word_at c a) (code_at views a) i there
          (λ c at here. covered_at plan c a i (All-find (IsCovered plan) (λ x. lies_in x.start x.size a) views.code c all at) (find-holds (λ x. lies_in x.start x.size a) views.code c at) aligned here)
      found i false f e = let k : ◌≡◌ {A = Option Fields} None (Some i) = rw f at e in cc

      go : (r : Option Fields) → ins_at views a ≡ r → called_at plan a ≡ code_called calls views a
      go None e = closed e o
      go (Some i) e = found i (a % 4 == 0) refl e

  -- what was offered of a segment's code covers it, and keeps what was covered
  pub covered_new : (c : CodeFields) (mid new : PlanFields) → IsCode c → ((a : ℕ) → a < 2 ^ 32 → IsOpen calls views a (called_at mid a))
      → ((j : ℕ) → j < length c.words → IsOpen calls views (first_word c.start + 4 * j) (called_at mid (first_word c.start + 4 * j))
      → called_at new (first_word c.start + 4 * j) ≡ code_called calls views (first_word c.start + 4 * j))
      → IsCovered new c
  covered_new c mid new h o given = λ j within. let fits = code_fits c j h within in (fits, given j within (o _ fits))

  pub covered_kept : (mid new : PlanFields) → ((a : ℕ) → a < 2 ^ 32 → called_at mid a ≡ code_called calls views a → called_at new a ≡ code_called calls views a)
      → (c : CodeFields) → IsCovered mid c → IsCovered new c
  covered_kept mid new keeps c h = λ j within. ((h j within).0, keeps _ (h j within).0 (h j within).1)

  -- a routine is offered, those behind it having been
  routine_step : (a k : ℕ) (f : FunctionFields) (rest : List FunctionFields) (mid new : Called)
      → mid ≡ record (code_called calls views a) { routine = routine_calls calls a (position_from (λ (f : FunctionFields). f.start == a) (k + 1) rest) }
      → new ≡ called_after (things.Routine f.start k) (calls (things.Routine f.start k)) a mid
      → new ≡ record (code_called calls views a) { routine = routine_calls calls a (position_from (λ (f : FunctionFields). f.start == a) k (f ∷ rest)) }
  routine_step a k f rest mid new m n = go (a == f.start) refl
    where
      go : (t : Bool) → (a == f.start) ≡ t → new ≡ record (code_called calls views a) { routine = routine_calls calls a (position_from (λ (f : FunctionFields). f.start == a) k (f ∷ rest)) }
      go true t =
          let same : f.start ≡ a = grind (arith, nat_tests) in
          let back : (f.start == a) ≡ true = grind (arith, nat_tests) in
          let n' : new ≡ record mid { routine = plan_calls None Before (calls (things.Routine f.start k)) } = rw t at n in
          rw back (n' ∙ ap (λ (c : Called). record c { routine = plan_calls None Before (calls (things.Routine f.start k)) }) m ∙ ap (λ (s : ℕ). record (code_called calls views a) { routine = plan_calls None Before (calls (things.Routine s k)) }) same)
      go false t =
          let back : (f.start == a) ≡ false = grind (arith, nat_tests) in
          let n' : new ≡ mid = rw t at n in
          rw back (n' ∙ m)

  pub routines_step : (a k : ℕ) (f : FunctionFields) (mid new : Called) → 0 < k → Some f ≡ slice_get views.routines (k - 1)
      → mid ≡ record (code_called calls views a) { routine = routine_calls calls a (position_from (λ (f : FunctionFields). f.start == a) k (drop k views.routines)) }
      → new ≡ called_after (things.Routine f.start (k - 1)) (calls (things.Routine f.start (k - 1))) a mid
      → new ≡ record (code_called calls views a) { routine = routine_calls calls a (position_from (λ (f : FunctionFields). f.start == a) (k - 1) (drop (k - 1) views.routines)) }
  routines_step a zero f mid new some there m n = absurd (omega arith)
  routines_step a (suc k) f mid new some there m n =
      let there' : Some f ≡ slice_get views.routines k = rw sub-one at there in
      rw (sub-one, drop_at k views.routines f there') (routine_step a k f (drop (suc k) views.routines) mid new (rw add-one m) (rw sub-one at n))

  pub routine_first : (a k : ℕ) (called : Called) → called ≡ code_called calls views a
      → called ≡ record (code_called calls views a) { routine = routine_calls calls a (position_from (λ (f : FunctionFields). f.start == a) k (drop (length views.routines) views.routines)) }
  unfolding code_called
  routine_first a k called e = rw drop-length e

  pub routine_last : (a : ℕ) (called : Called)
      → called ≡ record (code_called calls views a) { routine = routine_calls calls a (position_from (λ (f : FunctionFields). f.start == a) 0 views.routines) }
      → called ≡ called_of calls views a
  unfolding code_called called_of
  routine_last a called e = e
