-- The image of a file that passes the tests is whole.
use Rattle.std.proofs.Common.{◌≡◌, ◌<◌, ◌≤◌, ◌+◌, ◌/◌, ◌%◌, ℕ, List, [], ◌∷◌, length, get_or, take, map, true, false, cond, refl, sym, ap, subst, ◌∙◌, arith, inl, inr, zero-add, ◌⊎◌}
use Rattle.std.specs.Prelude.{Bool, ◌&&◌, ◌||◌, ◌==◌, not, nat_le, None, Some, All, AllPairs, filter, sum_by, if◌then◌else◌}
use Rattle.std.specs.List.{list_any, enumerate_from, position_or_len, filter_map, cons_option}
use Rattle.std.specs.List.Sorted.{IsStrictlyIncreasing}
use Rattle.std.specs.Map.{values_of}
use Rattle.std.specs.Option.{option_map_or}
use Rattle.std.proofs.Math.Nat.{eq-or-lt_of_le}
use Rattle.std.proofs.lemmas.Bool.{cases_Bool, cases_lt, eq-eqb, eqb-true, and_parts}
use Rattle.std.proofs.lemmas.Bool.Decides.{nat_tests}
use Rattle.std.proofs.lemmas.List.{get_or_default, get_or-map, get_or-take, length-map, length-take}
use Rattle.std.proofs.lemmas.List.Elements.{All-filter, All-head, All-tail, All-map, filter_passes}
use Rattle.std.proofs.lemmas.List.Folds.{Any-from_list_any, list_any_at}
use Rattle.std.proofs.lemmas.List.FromFn.{get_or-enumerate_from, length-enumerate_from}
use Rattle.std.proofs.lemmas.List.Sums.{fails_before_first, sum_by-cons, length-filter, count_by-le-length}
use Rattle.std.proofs.lemmas.Map.Entries.{length-values_of}
use Rattle.std.proofs.lemmas.Nat.{and_assoc}
use Rattle.std.proofs.lemmas.Simd.{map-map}
use Rattle.elf_load.specs.declared.fields.ProgramHeader.{ProgramHeader}
use Rattle.elf_load.specs.declared.fields.SectionHeader.{SectionHeader}
use Rattle.elf_load.specs.declared.fields.Symbol.{Symbol}
use Rattle.elf_load.specs.Elf.{in_order, segment_of}
use Rattle.elf_load.specs.Image.{SegmentFields, FunctionFields, is_executable, is_writable, first_page_of, last_page_of, pages_of, is_in_code, IsImage}
use Rattle.elf_load.specs.Symbols.{symbol_table, symbols, names, table_functions, functions, by_address, function_entry, function_named, is_function}
use Rattle.elf_load.specs.Tests.{first_sharing, is_sharing, shares_page, have_page_in_common, is_segment, first_page, last_page, page_count, can_execute, can_write, holds, is_code, is_entry, are_too_many_pages}
use Rattle.elf_load.proofs.Found.{no_header}
use Rattle.elf_load.proofs.Passed.{Passed, all_in_order, segments_are}
use Rattle.elf_load.proofs.Placed.{Rises, by_address_rises, rises_apart, Each, each_by_address, each_at, sum_by_address, length_by_address, passes_at, by_address_keeps, or_kept}

-- ---- segments of the table have no page in common

abbrev AreApart : ProgramHeader → ProgramHeader → Type 0
AreApart a b = (last_page a < first_page b) ⊎ (last_page b < first_page a)

none_shares : (headers : List ProgramHeader) → first_sharing headers ≡ None → (k : ℕ) (d : ProgramHeader) → k < length headers → is_sharing headers (k, get_or headers k d) ≡ false
unfolding first_sharing
none_shares headers none k d lt =
    let len = length-enumerate_from 0 headers in
    let past : length (enumerate_from 0 headers) ≤ position_or_len (is_sharing headers) (enumerate_from 0 headers) = grind (arith, nat_tests) in
    let here : get_or (enumerate_from 0 headers) k (0, d) ≡ (k, get_or headers k d) = get_or-enumerate_from 0 headers k (0, d) lt ∙ ap (λ (i : ℕ). (i, get_or headers k d)) (zero-add k) in
    ap (is_sharing headers) (sym here) ∙ fails_before_first (is_sharing headers) (enumerate_from 0 headers) k (0, d) (omega arith)

not_both : (fa la fb lb : ℕ) → (nat_le fa lb && nat_le fb la) ≡ false → (la < fb) ⊎ (lb < fa)
not_both fa la fb lb h =
    elim (cases_lt lb fa) [
      | inl lt ↦ inr lt
      | inr le ↦ inl (grind (arith, nat_tests))
    ]

apart_later : (headers : List ProgramHeader) → first_sharing headers ≡ None → (j k : ℕ) (d : ProgramHeader) → j < k → k < length headers → is_segment (get_or headers j d) ≡ true → is_segment (get_or headers k d) ≡ true → AreApart (get_or headers j d) (get_or headers k d)
apart_later headers none j k d before lt first second =
    let a = get_or headers j d in
    let b = get_or headers k d in
    let alone : shares_page (take k headers) b ≡ false = ap (λ (s : Bool). s && shares_page (take k headers) b) (sym second) ∙ none_shares headers none k d lt in
    let len = length-take k headers in
    let here : get_or (take k headers) j d ≡ a = get_or-take k headers j d before in
    elim (cases_Bool (have_page_in_common a b)) [
      | inl common ↦ (let both : (is_segment a && have_page_in_common a b) ≡ true = ap (λ (s : Bool). s && have_page_in_common a b) first ∙ common in
          let found : shares_page (take k headers) b ≡ true = list_any_at (λ other. is_segment other && have_page_in_common other b) (take k headers) j d (omega arith) (ap (λ (h : ProgramHeader). is_segment h && have_page_in_common h b) here ∙ both) in
          cc)
      | inr apart ↦ not_both (first_page a) (last_page a) (first_page b) (last_page b) apart
    ]

first_below_last : (header : ProgramHeader) → is_segment header ≡ true → first_page header ≤ last_page header
first_below_last header is =
    let some : 1 ≤ header.memory_size = grind (arith, nat_tests) in
    omega arith

-- ---- the entries of the segments, by address

record Entry (headers : List ProgramHeader) (e : ℕ × ProgramHeader) : Type 0 where
  key : e.0 ≡ e.1.address
  place : ℕ
  within : place < length headers
  at : get_or headers place no_header ≡ e.1
  is : is_segment e.1 ≡ true

swapped : (a b : ProgramHeader) → AreApart a b → AreApart b a
swapped a b (inl h) = inr h
swapped a b (inr h) = inl h

apart_or_same : (headers : List ProgramHeader) → first_sharing headers ≡ None → (e f : ℕ × ProgramHeader) → Entry headers e → Entry headers f → (e.1 ≡ f.1) ⊎ AreApart e.1 f.1
apart_or_same headers none e f x y =
    let xs = ap is_segment x.at ∙ x.is in
    let ys = ap is_segment y.at ∙ y.is in
    let both : (a b : ProgramHeader) → AreApart (get_or headers x.place no_header) (get_or headers y.place no_header) → AreApart e.1 f.1 = λ a b h. subst (λ (b : ProgramHeader). AreApart e.1 b) y.at (subst (λ (a : ProgramHeader). AreApart a (get_or headers y.place no_header)) x.at h) in
    elim (cases_lt x.place y.place) [
      | inl lt ↦ inr (both e.1 f.1 (apart_later headers none x.place y.place no_header lt y.within xs ys))
      | inr le ↦ elim (eq-or-lt_of_le le) [
        | inl same ↦ inl (sym x.at ∙ (ap (λ (p : ℕ). get_or headers p no_header) (sym same) ∙ y.at))
        | inr lt ↦ inr (both e.1 f.1 (swapped (get_or headers y.place no_header) (get_or headers x.place no_header) (apart_later headers none y.place x.place no_header lt x.within ys xs)))
      ]
    ]

same_at_address : (headers : List ProgramHeader) → first_sharing headers ≡ None → (e f : ℕ × ProgramHeader) → Entry headers e → Entry headers f → e.1.address ≡ f.1.address → e.1 ≡ f.1
same_at_address headers none e f x y same =
    let one = first_below_last e.1 x.is in
    let two = first_below_last f.1 y.is in
    let pages : first_page e.1 ≡ first_page f.1 = ap (λ (n : ℕ). n / 4096) same in
    elim (apart_or_same headers none e f x y) [
      | inl is ↦ is
      | inr apart ↦ elim apart [ inl h ↦ absurd (omega arith) | inr h ↦ absurd (omega arith) ]
    ]

abbrev entries_of : List ProgramHeader → List (ℕ × ProgramHeader)
entries_of headers = map (λ header. (header.address, header)) (filter is_segment headers)

each_from_all : {X : Type 0} (P : ℕ × X → Type 0) (es : List (ℕ × X)) → All P es → Each P es
unfolding Each
each_from_all P [] all = tt
each_from_all P (e ∷ es) all = (All-head P e es all, each_from_all P es (All-tail P e es all))

entries_are : (headers : List ProgramHeader) → Each (Entry headers) (entries_of headers)
entries_are headers =
    let P : ProgramHeader → Type 0 = λ header. Entry headers (header.address, header) in
    let each : All (λ header. is_segment header ≡ true → P header) headers = λ k d lt is. record { key = refl; place = k; within = lt; at = get_or_default headers k no_header d lt; is = is } in
    let among = All-filter is_segment (λ header. is_segment header ≡ true → P header) headers each in
    let are = filter_passes is_segment headers in
    each_from_all (Entry headers) (entries_of headers) (All-map (Entry headers) (λ (header : ProgramHeader). (header.address, header)) (filter is_segment headers) (λ k d lt. among k d lt (are k d lt)))

abbrev ordered : List ProgramHeader → List (ℕ × ProgramHeader)
ordered headers = by_address (entries_of headers)

ordered_are : (headers : List ProgramHeader) → Each (Entry headers) (ordered headers)
ordered_are headers = each_by_address (Entry headers) (entries_of headers) (entries_are headers)

-- those at two places are apart, the earlier below
pub ordered_apart : (headers : List ProgramHeader) → first_sharing headers ≡ None → (i j : ℕ) (d : ℕ × ProgramHeader) → i < j → j < length (ordered headers) → last_page (get_or (ordered headers) i d).1 < first_page (get_or (ordered headers) j d).1
ordered_apart headers none i j d before lt =
    let e = get_or (ordered headers) i d in
    let f = get_or (ordered headers) j d in
    let x = each_at (Entry headers) (ordered headers) i d (ordered_are headers) (omega arith) in
    let y = each_at (Entry headers) (ordered headers) j d (ordered_are headers) lt in
    let keys : e.0 < f.0 = rises_apart 0 (ordered headers) i j d (by_address_rises (entries_of headers)) before lt in
    let below : e.1.address < f.1.address = omega (arith, x.key, y.key) in
    let one = first_below_last e.1 x.is in
    let two = first_below_last f.1 y.is in
    let up : first_page e.1 ≤ first_page f.1 = omega arith in
    elim (apart_or_same headers none e f x y) [
      | inl is ↦ (let same : e.1.address ≡ f.1.address = ap (λ (h : ProgramHeader). h.address) is in absurd (omega arith))
      | inr apart ↦ elim apart [ inl h ↦ h | inr h ↦ absurd (omega arith) ]
    ]

-- ---- code

executable_same : (file : List ℕ) (header : ProgramHeader) → is_executable (segment_of file header) ≡ can_execute header
executable_same file header = ap (λ n. not (n == 0)) (and_assoc 1 header.flags 7)

writable_same : (file : List ℕ) (header : ProgramHeader) → is_writable (segment_of file header) ≡ can_write header
writable_same file header = ap (λ n. not (n == 0)) (and_assoc 2 header.flags 7)

-- the segment can be executed, and it holds these bytes
abbrev covers : ℕ → ℕ → ProgramHeader → Bool
covers from to header = can_execute header && (nat_le header.address from && nat_le to (header.address + header.memory_size))

regroup : (c s a b : Bool) → (c && (s && a && b)) ≡ true → ((c && (a && b)) ≡ true) × (s ≡ true)
regroup true true a b h = (h, refl)
regroup true false a b h = cc
regroup false s a b h = cc

any_kept : (q : ℕ) (xs : List ProgramHeader) → list_any (λ header. is_segment header && (header.address == q)) xs ≡ true → list_any (λ (e : ℕ × ProgramHeader). e.0 == q) (entries_of xs) ≡ true
any_kept q [] h = h
any_kept q (x ∷ xs) h =
    (elim (is_segment x) as (λ b. ((b && (x.address == q)) || list_any (λ header. is_segment header && (header.address == q)) xs) ≡ true → list_any (λ (e : ℕ × ProgramHeader). e.0 == q) (map (λ header. (header.address, header)) (cond b (x ∷ filter is_segment xs) (filter is_segment xs))) ≡ true) [
      | true ↦ λ is. or_kept (x.address == q) _ (x.address == q) _ (λ e. e) (any_kept q xs) is
      | false ↦ λ is. any_kept q xs is
    ]) h

any_values : (q : ℕ) (t : ProgramHeader → Bool) (f : ProgramHeader → SegmentFields) (u : SegmentFields → Bool) → ((header : ProgramHeader) → t header ≡ true → u (f header) ≡ true) → (es : List (ℕ × ProgramHeader)) → list_any (passes_at q t) es ≡ true → list_any u (map f (values_of es)) ≡ true
any_values q t f u each [] h = h
any_values q t f u each (e ∷ es) h =
    or_kept (passes_at q t e) (list_any (passes_at q t) es) (u (f e.1)) (list_any u (map f (values_of es))) (λ is. each e.1 ((and_parts (e.0 == q) (t e.1) is).1)) (any_values q t f u each es) h

each_weaker : {X : Type 0} (P Q : ℕ × X → Type 0) → ((e : ℕ × X) → P e → Q e) → (es : List (ℕ × X)) → Each P es → Each Q es
unfolding Each
each_weaker P Q f [] all = tt
each_weaker P Q f (e ∷ es) all = (f e all.0, each_weaker P Q f es all.1)

-- bytes that are in code of the table are in code of the segments in order
pub in_code : (file : List ℕ) (headers : List ProgramHeader) → first_sharing headers ≡ None → (from to : ℕ) → is_code from to headers ≡ true → is_in_code from to (map (segment_of file) (in_order headers)) ≡ true
unfolding in_order
in_code file headers none from to is =
    let any = Any-from_list_any (λ header. can_execute header && holds from to header) headers is in
    let k : ℕ = any.0 in
    let x : ProgramHeader = any.1 in
    let lt : k < length headers = any.2 in
    let at : get_or headers k x ≡ x = any.3 in
    let parts = regroup (can_execute x) (is_segment x) (nat_le x.address from) (nat_le to (x.address + x.memory_size)) any.4 in
    let entry : Entry headers (x.address, x) = record { key = refl; place = k; within = lt; at = get_or_default headers k no_header x lt ∙ at; is = parts.1 } in
    let same : (e : ℕ × ProgramHeader) → Entry headers e → e.0 ≡ x.address → covers from to e.1 ≡ true = λ e y address. subst (λ (h : ProgramHeader). covers from to h ≡ true) (sym (same_at_address headers none e (x.address, x) y entry (sym y.key ∙ address))) parts.0 in
    let here : (is_segment x && (x.address == x.address)) ≡ true = ap (λ (b : Bool). b && (x.address == x.address)) parts.1 ∙ eq-eqb x.address x.address refl in
    let some : list_any (λ e. e.0 == x.address) (entries_of headers) ≡ true = any_kept x.address headers (list_any_at (λ header. is_segment header && (header.address == x.address)) headers k x lt (ap (λ (h : ProgramHeader). is_segment h && (h.address == x.address)) at ∙ here)) in
    any_values x.address (covers from to) (segment_of file) _
    (λ header is. ap (λ (b : Bool). b && (nat_le header.address from && nat_le to (header.address + header.memory_size))) (executable_same file header) ∙ is)
    (ordered headers)
    (by_address_keeps x.address (covers from to) (entries_of headers) (each_weaker (Entry headers) (λ e. e.0 ≡ x.address → covers from to e.1 ≡ true) same (entries_of headers) (entries_are headers)) some)

-- ---- pages

values_at : (xs : List ProgramHeader) → values_of (map (λ header. (header.address, header)) xs) ≡ xs
values_at [] = refl
values_at (x ∷ xs) = ap (λ ys. x ∷ ys) (values_at xs)

pages_same : (file : List ℕ) (headers : List ProgramHeader) → sum_by pages_of (map (segment_of file) headers) ≡ sum_by page_count headers
pages_same file [] = refl
pages_same file (h ∷ hs) =
    sum_by-cons pages_of (segment_of file h) (map (segment_of file) hs)
    ∙ (ap (λ n. page_count h + n) (pages_same file hs) ∙ sym (sum_by-cons page_count h hs))

pub few_pages : (file : List ℕ) (headers : List ProgramHeader) → are_too_many_pages headers ≡ false → sum_by pages_of (map (segment_of file) (in_order headers)) + 256 ≤ 16384
unfolding in_order are_too_many_pages
few_pages file headers few =
    let all : sum_by page_count (filter is_segment headers) + 256 ≤ 16384 = grind (arith, nat_tests) in
    let kept = sum_by_address page_count (entries_of headers) in
    let same = ap (sum_by page_count) (values_at (filter is_segment headers)) in
    let here = pages_same file (values_of (ordered headers)) in
    omega arith

-- ---- functions

entry_in_code : (headers : List ProgramHeader) (s : Symbol) (rest : List (ℕ × ℕ)) → Each (λ e. is_code e.0 (e.0 + 1) headers ≡ true) rest → Each (λ e. is_code e.0 (e.0 + 1) headers ≡ true) (cons_option (function_entry headers s) rest)
unfolding Each
entry_in_code headers s rest all =
    elim (cases_Bool (is_function s && is_code s.value (s.value + 1) headers)) [
      | inl is ↦ subst (λ o. Each (λ e. is_code e.0 (e.0 + 1) headers ≡ true) (cons_option o rest)) (ap (λ (b : Bool). if b then Some (s.value, s.name) else None) (sym is)) ((and_parts (is_function s) _ is).1, all)
      | inr not ↦ subst (λ o. Each (λ e. is_code e.0 (e.0 + 1) headers ≡ true) (cons_option o rest)) (ap (λ (b : Bool). if b then Some (s.value, s.name) else None) (sym not)) all
    ]

entries_in_code : (headers : List ProgramHeader) (ss : List Symbol) → Each (λ e. is_code e.0 (e.0 + 1) headers ≡ true) (filter_map (function_entry headers) ss)
unfolding Each
entries_in_code headers [] = tt
entries_in_code headers (s ∷ ss) = entry_in_code headers s (filter_map (function_entry headers) ss) (entries_in_code headers ss)

abbrev start_of : FunctionFields → ℕ
start_of f = f.start

starts_are : (bytes : List ℕ) (es : List (ℕ × ℕ)) → map start_of (map (function_named bytes) es) ≡ map (λ e. e.0) es
starts_are bytes [] = refl
starts_are bytes (e ∷ es) = ap (λ ks. e.0 ∷ ks) (starts_are bytes es)

keys_rise : (es : List (ℕ × ℕ)) → Rises 0 es → IsStrictlyIncreasing (map (λ e. e.0) es)
keys_rise es all k lt =
    let f : ℕ × ℕ → ℕ = λ e. e.0 in
    let len = length-map es f in
    let one = get_or-map f es k (0, 0) 0 (omega arith) in
    let two = get_or-map f es (k + 1) (0, 0) 0 (omega arith) in
    let apart = rises_apart 0 es k (k + 1) (0, 0) all (omega arith) (omega arith) in
    omega arith

-- the functions of a table are in order and in code
record InOrder (segments : List SegmentFields) (found : List FunctionFields) : Type 0 where
  pub rising : IsStrictlyIncreasing (map start_of found)
  pub code : All (λ f. is_in_code f.start (f.start + 1) segments ≡ true) found

table_in_order : (file : List ℕ) (headers : List ProgramHeader) → first_sharing headers ≡ None → (table : SectionHeader) → InOrder (map (segment_of file) (in_order headers)) (table_functions file headers table)
unfolding table_functions
table_in_order file headers none table =
    let raw = filter_map (function_entry headers) (symbols file table) in
    let all = each_by_address (λ (e : ℕ × ℕ). is_code e.0 (e.0 + 1) headers ≡ true) raw (entries_in_code headers (symbols file table)) in
    record {
      rising = subst IsStrictlyIncreasing (sym (starts_are (names file table) (by_address raw))) (keys_rise (by_address raw) (by_address_rises raw));
      code =
          All-map (λ f. is_in_code f.start (f.start + 1) (map (segment_of file) (in_order headers)) ≡ true) (function_named (names file table)) (by_address raw)
          (λ k d lt. in_code file headers none _ _ (each_at (λ (e : ℕ × ℕ). is_code e.0 (e.0 + 1) headers ≡ true) (by_address raw) k d all lt));
    }

functions_in_order : (file : List ℕ) (headers : List ProgramHeader) → first_sharing headers ≡ None → InOrder (map (segment_of file) (in_order headers)) (functions file headers)
unfolding functions
functions_in_order file headers none =
    elim (symbol_table file) as (λ o. InOrder (map (segment_of file) (in_order headers)) (option_map_or (table_functions file headers) o [])) [
      | None ↦ record { rising = λ k lt. absurd (omega arith); code = λ k d lt. absurd (omega arith) }
      | Some table ↦ table_in_order file headers none table
    ]

-- ---- the whole

segments_apart : (file : List ℕ) (headers : List ProgramHeader) → first_sharing headers ≡ None → AllPairs (λ a b. last_page_of a < first_page_of b) (map (segment_of file) (in_order headers))
unfolding in_order
segments_apart file headers none i j d before lt =
    let f : ℕ × ProgramHeader → SegmentFields = λ e. segment_of file e.1 in
    let es = ordered headers in
    let same = map-map (segment_of file) (λ (e : ℕ × ProgramHeader). e.1) es in
    let len : length (map (segment_of file) (values_of es)) ≡ length es = ap length same ∙ length-map es f in
    let z : ℕ × ProgramHeader = (0, no_header) in
    let one : get_or (map (segment_of file) (values_of es)) i d ≡ f (get_or es i z) = ap (λ xs. get_or xs i d) same ∙ get_or-map f es i z d (omega arith) in
    let two : get_or (map (segment_of file) (values_of es)) j d ≡ f (get_or es j z) = ap (λ xs. get_or xs j d) same ∙ get_or-map f es j z d (omega arith) in
    subst (λ (b : SegmentFields). last_page_of (get_or (map (segment_of file) (values_of es)) i d) < first_page_of b) (sym two)
    (subst (λ (a : SegmentFields). last_page_of a < first_page_of (f (get_or es j z))) (sym one) (ordered_apart headers none i j z before (omega arith)))

few_segments : (file : List ℕ) (headers : List ProgramHeader) → length headers ≤ 32 → length (map (segment_of file) (in_order headers)) ≤ 32
unfolding in_order
few_segments file headers few =
    let a : length (map (segment_of file) (values_of (ordered headers))) ≡ length (values_of (ordered headers)) = length-map (values_of (ordered headers)) (segment_of file) in
    let b : length (values_of (ordered headers)) ≡ length (ordered headers) = length-values_of (ordered headers) in
    let c : length (ordered headers) ≤ length (entries_of headers) = length_by_address (entries_of headers) in
    let d : length (entries_of headers) ≡ length (filter is_segment headers) = length-map (filter is_segment headers) (λ (header : ProgramHeader). (header.address, header)) in
    let e = length-filter is_segment headers in
    let f = count_by-le-length is_segment headers in
    omega arith

enters_code : (entry : ℕ) (headers : List ProgramHeader) → is_entry entry headers ≡ true → ((entry % 4 == 0) ≡ true) × (is_code entry (entry + 4) headers ≡ true)
unfolding is_entry
enters_code entry headers is = and_parts (entry % 4 == 0) (is_code entry (entry + 4) headers) is

pub whole : (file : List ℕ) (size entry : ℕ) (headers : List ProgramHeader) → Passed size entry headers → length headers ≤ 32 → (phdr phnum : ℕ) → IsImage (record { entry = entry; phdr = phdr; phnum = phnum; segments = map (segment_of file) (in_order headers); functions = functions file headers })
whole file size entry headers p few phdr phnum =
    let found = functions_in_order file headers p.sharing in
    record {
      segments = segments_are file size entry headers p;
      few = few_segments file headers few;
      apart = segments_apart file headers p.sharing;
      fixed = All-map (λ s. (is_writable s && is_executable s) ≡ false) (segment_of file) (in_order headers) (all_in_order (λ header. (is_writable (segment_of file header) && is_executable (segment_of file header)) ≡ false) headers (λ k d lt is. fixed_segment file (get_or headers k d) (p.fixed k d lt is)));
      pages = few_pages file headers p.pages;
      aligned = eqb-true (entry % 4) 0 (enters_code entry headers p.enters).0;
      entry = in_code file headers p.sharing entry (entry + 4) (enters_code entry headers p.enters).1;
      rising = found.rising;
      code = found.code;
    } where
      fixed_segment : (file : List ℕ) (header : ProgramHeader) → (can_write header && can_execute header) ≡ false → (is_writable (segment_of file header) && is_executable (segment_of file header)) ≡ false
      fixed_segment file header is = ap (λ (b : Bool). b && is_executable (segment_of file header)) (writable_same file header) ∙ (ap (λ (b : Bool). can_write header && b) (executable_same file header) ∙ is)
