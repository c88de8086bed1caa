-- Code that stays decoded while the memory changes.
use Rattle.std.proofs.Common.{◌≡◌, ℕ, zero, suc, ◌+◌, ◌-◌, ◌*◌, ◌/◌, ◌^◌, ◌<◌, ◌≤◌, ◌&&◌, ◌||◌, true, false, cond, Bool, List, [], ◌∷◌, length, get_or, refl, sym, ap, ◌∙◌, inl, inr, arith, Option, Some, None}
use Rattle.std.specs.Prelude.{not}
use Rattle.std.specs.List.{All}
use Rattle.std.proofs.lemmas.Bool.{cases_Bool, true≢false}
use Rattle.std.proofs.lemmas.Bool.Decides.{nat_tests}
use Rattle.std.proofs.lemmas.List.Elements.{All-append}
use Rattle.std.proofs.lemmas.List.FromFn.{get_or-map-range_with_len, length-map-range_with_len}
use Rattle.rv_isa.specs.Decoded.{decoded}
use Rattle.rv_isa.specs.Table.{Fields}
use Rattle.rv_isa.specs.declared.op.Op.TheVariants.{Ebreak}
use Rattle.guest_model.specs.Areas.{all_permitted, is_mapped, holds, permits, is_permitted, wrap}
use Rattle.guest_model.specs.Bytes.{byte_at, bytes_at, number_of}
use Rattle.guest_model.specs.Space.{Space, read_number}
use Rattle.guest_model.specs.Maps.{is_in_range, cut_areas}
use Rattle.guest_model.specs.declared.Area.{Area}
use Rattle.guest_model.specs.declared.Access.TheVariants.{Write, Execute}
use Rattle.guest_model.specs.declared.platform.TheConstants.{MAPS_START}
use Rattle.frame_pool.specs.Bytes.{is_among}
use Rattle.guest_mem.specs.Code.{CodeFields, IsFixed, IsKept, IsKeptAmong, code_of, codes_with, entry_of, first_word, holds_code, look_again, no_code, word_at, word_in}
use Rattle.guest_mem.specs.Mapped.{space_over}
use Rattle.guest_mem.specs.Sound.{is_cut}
use Rattle.guest_mem.proofs.Added.{IsAdded, IsWithin, among_held, not_permitted}
use Rattle.guest_mem.proofs.Mapped.{byte_of_space}
use Rattle.guest_mem.proofs.Permitted.{all_permitted_from, mapped_if_permitted}
use Rattle.guest_mem.proofs.Unmapped.{IsMapRange, is_permitted-cut}

-- an address of code keeps its byte, and stays fixed
pub record StaysAt (ys : List Area) (old new : List ℕ) (a : ℕ) : Type 0 where
  pub byte : get_or new a 0 ≡ get_or old a 0
  pub fixed : IsFixed ys a

-- so does each fixed address below where maps start
abbrev pub CodeStays : List Area → List Area → List ℕ → List ℕ → Type 0
CodeStays xs ys old new = (a : ℕ) → a < MAPS_START → IsFixed xs a → StaysAt ys old new a

word_with : (old new : List ℕ) (a : ℕ) → ((j : ℕ) → j < 4 → get_or new (a + j) 0 ≡ get_or old (a + j) 0) → word_in new a ≡ word_in old a
unfolding word_in
word_with old new a same =
    let first : a ≡ a + 0 = omega arith in
    let here : get_or new a 0 ≡ get_or old a 0 = ap (λ k. get_or new k 0) first ∙ same 0 (omega arith) ∙ ap (λ k. get_or old k 0) (sym first) in
    rw (here, same 1 (omega arith), same 2 (omega arith), same 3 (omega arith)) refl

-- code that is kept still is
pub kept_stays : (xs ys : List Area) (old new : List ℕ) (code : CodeFields) → CodeStays xs ys old new → IsKept xs old code → IsKept ys new code
kept_stays xs ys old new code stays kept =
    let end = kept.end in
    let there : (a : ℕ) → code.start ≤ a → a < code.start + 4 * length code.entries → StaysAt ys old new a = λ a from to. stays a (omega (arith, end, to)) (kept.fixed a from to) in
    record {
      end = end;
      fixed = λ a from to. (there a from to).fixed;
      decodes = λ k lt.
          kept.decodes k lt
          ∙ ap (λ w. entry_of (decoded w)) (sym (word_with old new (code.start + 4 * k) (λ j jl. (there (code.start + 4 * k + j) (omega arith) (omega (arith, lt, jl))).byte)));
    }

pub all_stay : (xs ys : List Area) (old new : List ℕ) (codes : List CodeFields) → CodeStays xs ys old new → All (IsKept xs old) codes → All (IsKept ys new) codes
all_stay xs ys old new codes stays all = λ k d lt. kept_stays xs ys old new (get_or codes k d) stays (all k d lt)

-- no code is kept
pub none_kept : (areas : List Area) (all : List ℕ) → All (IsKept areas all) (no_code ∷ [])
none_kept areas all = λ k d lt.
    let first : k ≡ 0 = omega (arith, lt) in
    rw first (record { end = omega arith; fixed = λ a from to. absurd (omega (arith, from, to)); decodes = λ j none. absurd (omega (arith, none)) })

elsewhere : (t : Bool) (x y : ℕ) → (t ≡ true → ⊥) → cond t x y ≡ y
elsewhere true x y none = absurd (none refl)
elsewhere false x y none = refl

-- a write where bytes may be written
pub stays_written : (xs : List Area) (old new : List ℕ) (a : ℕ) (source : List ℕ)
    → ((q : ℕ) → is_among a (length source) q ≡ true → is_permitted Write xs q ≡ true)
    → ((q : ℕ) → get_or new q 0 ≡ cond (is_among a (length source) q) (get_or source (q - a) 0) (get_or old q 0))
    → CodeStays xs xs old new
stays_written xs old new a source writable is = λ q lt fixed. record {
  byte = is q ∙ elsewhere (is_among a (length source) q) _ _ (λ h. true≢false (sym (writable q h) ∙ fixed.unwritten));
  fixed = fixed;
}

outside_area : (h p m : Bool) → h ≡ false → ((p && h) || m) ≡ m
outside_area true p m e = absurd (true≢false e)
outside_area false true m e = refl
outside_area false false m e = refl

not_held : (h m : Bool) → m ≡ true → (h ≡ true → m ≡ false) → h ≡ false
not_held true m e f = absurd (true≢false (sym e ∙ f refl))
not_held false m e f = refl

-- an area that is added apart from the others
pub stays_added : (x : Area) (xs ys : List Area) (old new : List ℕ) (brk next new_brk new_next at : ℕ) (given : List ℕ)
    → IsAdded x xs ys brk next new_brk new_next → IsWithin x at (length given)
    → ((q : ℕ) → get_or new q 0 ≡ cond (is_among at (length given) q) (get_or given (q - at) 0) (get_or old q 0))
    → CodeStays xs ys old new
stays_added x xs ys old new brk next new_brk new_next at given added inside is = λ q lt fixed.
    let out : holds x q ≡ false = not_held (holds x q) (is_mapped xs q) (mapped_if_permitted Execute xs q fixed.executed) (added.apart q) in
    record {
      byte = is q ∙ elsewhere (is_among at (length given) q) _ _ (λ h. true≢false (sym (among_held x at (length given) q inside.from inside.within h) ∙ out));
      fixed = record {
        executed = added.permitted Execute q ∙ outside_area (holds x q) (permits Execute x) (is_permitted Execute xs q) out ∙ fixed.executed;
        unwritten = added.permitted Write q ∙ outside_area (holds x q) (permits Write x) (is_permitted Write xs q) out ∙ fixed.unwritten;
      };
    }

below_range : (from to q : ℕ) → q < from → is_in_range from to q ≡ false
below_range from to q lt = grind (arith, nat_tests)

not_cut : (r m : Bool) (x y : ℕ) → r ≡ false → cond (r && m) x y ≡ y
not_cut true m x y e = absurd (true≢false e)
not_cut false m x y e = refl

left_there : (r p : Bool) → r ≡ false → (not r && p) ≡ p
left_there true p e = absurd (true≢false e)
left_there false p e = refl

-- a range is unmapped where maps stand
pub stays_cut : (xs : List Area) (old new : List ℕ) (from to : ℕ) → IsMapRange from to
    → ((q : ℕ) → get_or new q 0 ≡ cond (is_cut from to xs q) 0 (get_or old q 0))
    → CodeStays xs (cut_areas from to xs) old new
stays_cut xs old new from to range is = λ q lt fixed.
    let low = range.low in
    let out : is_in_range from to q ≡ false = below_range from to q (omega (arith, low, lt)) in
    record {
      byte = is q ∙ not_cut (is_in_range from to q) (is_mapped xs q) 0 (get_or old q 0) out;
      fixed = record {
        executed = is_permitted-cut Execute from to q xs range.order ∙ left_there (is_in_range from to q) (is_permitted Execute xs q) out ∙ fixed.executed;
        unwritten = is_permitted-cut Write from to q xs range.order ∙ left_there (is_in_range from to q) (is_permitted Write xs q) out ∙ fixed.unwritten;
      };
    }

-- the area holds code that can be kept
pub record IsCodeArea (x : Area) : Type 0 where
  pub executed : x.execute ≡ true
  pub unwritten : x.write ≡ false
  pub low : x.end ≤ MAPS_START

held_executed : (p h m : Bool) → p ≡ true → h ≡ true → ((p && h) || m) ≡ true
held_executed p h m e f = rw (e, f) refl

held_unwritten : (p h m : Bool) → p ≡ false → m ≡ false → ((p && h) || m) ≡ false
held_unwritten p h m e f = rw (e, f) refl

there_given : (t : Bool) (x y : ℕ) → t ≡ true → cond t x y ≡ x
there_given t x y e = rw e refl

given_byte : (old new : List ℕ) (at : ℕ) (given : List ℕ) (k q : ℕ) → k < length given → q ≡ at + k
    → ((q : ℕ) → get_or new q 0 ≡ cond (is_among at (length given) q) (get_or given (q - at) 0) (get_or old q 0))
    → get_or new q 0 ≡ get_or given k 0
given_byte old new at given k q lt place is =
    let back : q - at ≡ k = omega (arith, place) in
    is q ∙ there_given (is_among at (length given) q) _ _ (grind (arith, nat_tests)) ∙ ap (λ j. get_or given j 0) back

word_given : (old new : List ℕ) (at : ℕ) (given : List ℕ) (k : ℕ) → k + 4 ≤ length given
    → ((q : ℕ) → get_or new q 0 ≡ cond (is_among at (length given) q) (get_or given (q - at) 0) (get_or old q 0))
    → word_in new (at + k) ≡ word_in given k
unfolding word_in
word_given old new at given k le is =
    let first = given_byte old new at given k (at + k) (omega arith) refl is in
    let second = given_byte old new at given (k + 1) (at + k + 1) (omega arith) (omega arith) is in
    let third = given_byte old new at given (k + 2) (at + k + 2) (omega arith) (omega arith) is in
    let fourth = given_byte old new at given (k + 3) (at + k + 3) (omega arith) (omega arith) is in
    rw (first, second, third, fourth) refl

among_bytes : (at n a : ℕ) → at ≤ a → a < at + n → is_among at n a ≡ true
among_bytes at n a from to = grind (arith, nat_tests)

-- the code of an area that is added
pub kept_added : (x : Area) (xs ys : List Area) (old new : List ℕ) (brk next new_brk new_next at : ℕ) (given : List ℕ)
    → IsCodeArea x → IsAdded x xs ys brk next new_brk new_next → IsWithin x at (length given)
    → ((q : ℕ) → get_or new q 0 ≡ cond (is_among at (length given) q) (get_or given (q - at) 0) (get_or old q 0))
    → IsKept ys new (code_of at given)
kept_added x xs ys old new brk next new_brk new_next at given kind added inside is =
    let from = inside.from in
    let within = inside.within in
    let low = kind.low in
    let skipped = first_word at - at in
    let count = (length given - skipped) / 4 in
    let len = length-map-range_with_len (λ k. entry_of (decoded (word_in given (skipped + 4 * k)))) 0 count in
    let fits : 4 * count ≤ length given - skipped = omega arith in
    let start : first_word at ≡ at + skipped = omega arith in
    record {
      end = omega (arith, len, within, low, fits, start);
      fixed = λ a f t.
          let among : is_among at (length given) a ≡ true = among_bytes at (length given) a (omega (arith, f, start)) (omega (arith, t, len, fits, start)) in
          let held : holds x a ≡ true = among_held x at (length given) a from within among in
          record {
            executed = added.permitted Execute a ∙ held_executed (permits Execute x) (holds x a) (is_permitted Execute xs a) kind.executed held;
            unwritten = added.permitted Write a ∙ held_unwritten (permits Write x) (holds x a) (is_permitted Write xs a) kind.unwritten (not_permitted Write xs a (added.apart a held));
          };
      decodes = λ k lt.
          let few : k < count = omega (arith, len, lt) in
          let place : at + (skipped + 4 * k) ≡ first_word at + 4 * k = omega (arith, start) in
          get_or-map-range_with_len (λ j. entry_of (decoded (word_in given (skipped + 4 * j)))) 0 count k k look_again few (omega arith)
          ∙ ap (λ w. entry_of (decoded w)) (sym (ap (word_in new) (sym place) ∙ word_given old new at given (skipped + 4 * k) (omega (arith, few, fits)) is));
    }

code_area : (x : Area) → holds_code x ≡ true → IsCodeArea x
code_area x h = record { executed = grind (arith, nat_tests); unwritten = grind (arith, nat_tests); low = grind (arith, nat_tests) }

all_one : (P : CodeFields → Type 0) (x : CodeFields) → P x → All P (x ∷ [])
all_one P x h zero d lt = h
all_one P x h (suc k) d lt = absurd (omega arith)

-- the code that is kept once an area is added
pub kept_with : (x : Area) (xs ys : List Area) (old new : List ℕ) (brk next new_brk new_next at : ℕ) (given : List ℕ) (codes : List CodeFields)
    → IsAdded x xs ys brk next new_brk new_next → IsWithin x at (length given)
    → ((q : ℕ) → get_or new q 0 ≡ cond (is_among at (length given) q) (get_or given (q - at) 0) (get_or old q 0))
    → All (IsKept xs old) codes → All (IsKept ys new) (codes_with x at given codes)
kept_with x xs ys old new brk next new_brk new_next at given codes added inside is all =
    let before = all_stay xs ys old new codes (stays_added x xs ys old new brk next new_brk new_next at given added inside is) all in
    elim (cases_Bool (holds_code x)) [
      | inl h ↦
          rw h (All-append (IsKept ys new) codes (code_of at given ∷ []) before
          (all_one (IsKept ys new) (code_of at given) (kept_added x xs ys old new brk next new_brk new_next at given (code_area x h) added inside is)))
      | inr h ↦ rw h before
    ]

word_over : (s : Space) (all : List ℕ) (a : ℕ) → ((q : ℕ) → byte_at s.bytes q ≡ get_or all q 0) → a + 4 ≤ 2 ^ 32 → number_of (bytes_at s.bytes a 4) ≡ word_in all a
unfolding word_in
word_over s all a holds le =
    let first : wrap (a + 0) ≡ a = omega arith in
    let second : wrap (a + 1) ≡ a + 1 = omega arith in
    let third : wrap (a + 2) ≡ a + 2 = omega arith in
    let fourth : wrap (a + 3) ≡ a + 3 = omega arith in
    rw (first, second, third, fourth, holds a, holds (a + 1), holds (a + 2), holds (a + 3)) refl

-- the entry of a word that is no ebreak is the word's instruction
entry_is : (o : Option Fields) (i : Fields) → entry_of o ≡ i → (i.op ≡ Ebreak → ⊥) → o ≡ Some i
entry_is None i is none = absurd (none (ap (λ (f : Fields). f.op) (sym is)))
entry_is (Some j) i is none = ap Some is

-- an instruction that is kept is that of the word there
pub entry_kept : (s : Space) (areas : List Area) (all : List ℕ) (brk next a : ℕ) (codes : List CodeFields) (i : Fields)
    → space_over areas all brk next ≡ s → ((q : ℕ) → is_mapped areas q ≡ false → get_or all q 0 ≡ 0)
    → All (IsKept areas all) codes → IsKeptAmong codes a i → a < 2 ^ 32 → word_at s a ≡ Some (Some i)
unfolding read_number
entry_kept s areas all brk next a codes i is rest kept found fits =
    let code = get_or codes found.j (record { start = 0; entries = [] }) in
    let here = kept found.j (record { start = 0; entries = [] }) found.within in
    let there = found.at (record { start = 0; entries = [] }) in
    let end = here.end in
    let k = there.k in
    let within = there.within in
    let place : a ≡ code.start + 4 * k = omega (arith, there.at, end, within) in
    let permitted : all_permitted Execute s.areas a 4 ≡ true =
    all_permitted_from Execute s.areas a 4 (λ j lt.
    let same : wrap (a + j) ≡ a + j = omega (arith, place, end, within, lt) in
    ap (is_permitted Execute s.areas) same
    ∙ ap (λ (t : Space). is_permitted Execute t.areas (a + j)) (sym is)
    ∙ (here.fixed (a + j) (omega (arith, place)) (omega (arith, place, within, lt))).executed) in
    rw permitted (ap Some (
    ap decoded (word_over s all a (byte_of_space s areas all brk next is rest) (omega (arith, place, end, within)) ∙ ap (word_in all) place)
    ∙ entry_is (decoded (word_in all (code.start + 4 * k))) i (sym (here.decodes k within) ∙ there.is) there.other))
