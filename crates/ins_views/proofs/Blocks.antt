-- Where instructions stand, and how long a run of them is.
use Rattle.std.proofs.Common.{◌≡◌, ◌+◌, ◌-◌, ◌*◌, ◌/◌, ◌%◌, ◌≤◌, ◌<◌, ◌∙◌, ◌==◌, ℕ, zero, suc, Bool, true, false, List, [], ◌∷◌, ap, arith, refl, sym, sub-one, add-one, if◌then◌else◌}
use Rattle.std.specs.Prelude.{All, IfSome, Option, None, Some, find, slice_get, option_and_then}
use Rattle.std.proofs.lemmas.Bool.Decides.{nat_tests}
use Rattle.std.proofs.lemmas.List.Elements.{All-head, All-tail}
use Rattle.std.proofs.lemmas.Option.{option_and_then_some, slice_get_within}
use Rattle.elf_load.specs.Limits.{user_end}
use Rattle.rv_isa.specs.Kinds.{ends_block}
use Rattle.rv_isa.specs.Table.{Fields}
use Rattle.ins_views.specs.Memory.{lies_in}
use Rattle.ins_views.specs.Views.{CodeFields, IsCode, IsPlaced, IsViews, ViewFields, code_at, first_word, ins_at, word_at}
use Rattle.ins_views.specs.Blocks.{count_from, most_words, run_length}
use Rattle.ins_views.proofs.Shapes.{find-holds}

-- what holds of each element holds of one that a search found
pub All-find : {X : Type 0} (P : X → Type 0) (p : X → Bool) (xs : List X) (x : X) → All P xs → find p xs ≡ Some x → P x
All-find P p [] x all e = cc
All-find P p (y ∷ ys) x all e = go (p y) refl e (All-find P p ys x (All-tail P y ys all))
  where
    go : (t : Bool) → p y ≡ t → find p (y ∷ ys) ≡ Some x → (find p ys ≡ Some x → P x) → P x
    go true f g rest = let h : Some y ≡ Some x = rw f at g in let k : y ≡ x = cc in rw (← k) (All-head P y ys all)
    go false f g rest = rest (rw f at g)

placed_in : (c : CodeFields) (pc : ℕ) (i : Fields) → IsCode c → lies_in c.start c.size pc ≡ true → pc % 4 ≡ 0 → word_at c pc ≡ Some i → IsPlaced pc
placed_in c pc i h lies aligned e =
    option_and_then_some (λ word. word) (slice_get c.words ((pc - first_word c.start) / 4)) i e
    (λ word at here. let within = slice_get_within c.words ((pc - first_word c.start) / 4) word at in
    let start : c.start ≤ pc = grind (arith, nat_tests) in
    let fits = h.fits in let below = h.below in
    record { aligned = aligned; below = omega arith })

-- the same of what a look at the word gave
pub placed_some : (v : ViewFields) (c : CodeFields) (pc : ℕ) (r : Option Fields) → IsViews v → code_at v pc ≡ Some c → pc % 4 ≡ 0 → r ≡ word_at c pc → IfSome r (λ _. IsPlaced pc)
placed_some v c pc None h at aligned e = tt
placed_some v c pc (Some i) h at aligned e =
    placed_in c pc i (All-find IsCode (λ x. lies_in x.start x.size pc) v.code c h.code at) (find-holds (λ x. lies_in x.start x.size pc) v.code c at) aligned (sym e)

-- an instruction ends in the user's memory
pub ins_placed : (v : ViewFields) (pc : ℕ) (i : Fields) → IsViews v → ins_at v pc ≡ Some i → IsPlaced pc
unfolding ins_at
ins_placed v pc i h e = go (pc % 4 == 0) refl e
  where
    go : (t : Bool) → (pc % 4 == 0) ≡ t → ins_at v pc ≡ Some i → IsPlaced pc
    go true f g =
        let aligned : pc % 4 ≡ 0 = grind (arith, nat_tests) in
        let found : option_and_then (λ c. word_at c pc) (code_at v pc) ≡ Some i = rw f at g in
        option_and_then_some (λ c. word_at c pc) (code_at v pc) i found
        (λ c at here. placed_in c pc i (All-find IsCode (λ x. lies_in x.start x.size pc) v.code c h.code at) (find-holds (λ x. lies_in x.start x.size pc) v.code c at) aligned here)
    go false f g = let k : ◌≡◌ {A = Option Fields} None (Some i) = rw f at g in cc

-- the run from an address: one word more, or none
pub run_none : (v : ViewFields) (n pc : ℕ) → ins_at v pc ≡ None → run_length v n pc ≡ 0
unfolding run_length
run_none v zero pc e = refl
run_none v (suc n) pc e = rw e refl

pub run_ends : (v : ViewFields) (n pc : ℕ) (i : Fields) → 0 < n → ins_at v pc ≡ Some i → ends_block i.op ≡ true → run_length v n pc ≡ 1
unfolding run_length
run_ends v zero pc i h e f = absurd (omega arith)
run_ends v (suc n) pc i h e f = rw (e, f) refl

pub run_more : (v : ViewFields) (n pc : ℕ) (i : Fields) → 0 < n → ins_at v pc ≡ Some i → ends_block i.op ≡ false → run_length v n pc ≡ run_length v (n - 1) (pc + 4) + 1
unfolding run_length
run_more v zero pc i h e f = absurd (omega arith)
run_more v (suc n) pc i h e f = rw (e, f, sub-one, add-one) refl

-- a state of the walk: `len` instructions lie behind, and the run goes on at pc
pub record IsWalked (v : ViewFields) (head pc len : ℕ) : Type 0 where
  pub counted : run_length v most_words head ≡ run_length v (most_words - len) pc + len
  pub behind : 4 * len ≤ pc
  pub user : 0 < len → pc ≤ user_end

room : (len pc : ℕ) → 4 * len ≤ pc → pc + 4 ≤ user_end → 0 < most_words - len
unfolding most_words
room len pc h below = omega arith

pub walk_ends : (v : ViewFields) (head pc len : ℕ) (i : Fields) → IsWalked v head pc len → IsPlaced pc → ins_at v pc ≡ Some i → ends_block i.op ≡ true
    → len + 1 ≡ run_length v most_words head
walk_ends v head pc len i w h e f =
    let last = run_ends v (most_words - len) pc i (room len pc w.behind h.below) e f in
    omega (arith, w.counted, last)

pub walk_stops : (v : ViewFields) (head pc len : ℕ) → IsWalked v head pc len → ins_at v pc ≡ None → len ≡ run_length v most_words head
walk_stops v head pc len w e =
    let last = run_none v (most_words - len) pc e in
    omega (arith, w.counted, last)

pub walk_goes : (v : ViewFields) (head pc len : ℕ) (i : Fields) → IsWalked v head pc len → IsPlaced pc → ins_at v pc ≡ Some i → ends_block i.op ≡ false
    → IsWalked v head (pc + 4) (len + 1)
walk_goes v head pc len i w h e f =
    let more = run_more v (most_words - len) pc i (room len pc w.behind h.below) e f in
    let fewer : most_words - len - 1 ≡ most_words - (len + 1) = omega arith in
    record {
      counted = w.counted ∙ ap (λ n. n + len) (more ∙ ap (λ n. run_length v n (pc + 4) + 1) fewer) ∙ omega arith;
      behind = omega (arith, w.behind);
      user = λ _. h.below;
    }

-- an address behind which no instruction has room
nothing_there : (v : ViewFields) (pc : ℕ) → IsViews v → user_end < pc + 4 → ins_at v pc ≡ None
nothing_there v pc h far = go (ins_at v pc) refl
  where
    go : (o : Option Fields) → ins_at v pc ≡ o → ins_at v pc ≡ None
    go None e = e
    go (Some i) e = let placed = ins_placed v pc i h e in absurd (omega (arith, placed.below))

-- more than enough addresses are enough
stays : (v : ViewFields) (n pc : ℕ) → IsViews v → user_end < pc + 4 * n + 4 → run_length v (suc n) pc ≡ run_length v n pc
unfolding run_length
stays v zero pc h far = rw (nothing_there v pc h (omega arith)) refl
stays v (suc n) pc h far = ap (count_from (ins_at v pc)) (stays v n (pc + 4) h (omega arith))

block_of : (v : ViewFields) (n pc : ℕ) (i : Fields) → IsViews v → most_words ≡ suc n → user_end < 4 * n + 8 → ins_at v pc ≡ Some i
    → run_length v most_words pc ≡ (if ends_block i.op then 1 else run_length v most_words (pc + 4) + 1)
unfolding run_length
block_of v n pc i h most enough e = rw (most, e, stays v n (pc + 4) h (omega arith), add-one) refl

pub block_by_block : (v : ViewFields) (pc : ℕ) (i : Fields) → IsViews v → ins_at v pc ≡ Some i
    → run_length v most_words pc ≡ (if ends_block i.op then 1 else run_length v most_words (pc + 4) + 1)
unfolding most_words
block_by_block v pc i h e = block_of v (most_words - 1) pc i h (omega arith) (omega arith) e
