-- What is known of the segments of a file that passes the tests.
use Rattle.std.proofs.Common.{◌≡◌, ◌≤◌, ◌+◌, ◌-◌, ◌^◌, ℕ, List, [], ◌∷◌, length, get_or, drop, map, true, false, refl, sym, ap, ◌∙◌, arith}
use Rattle.std.specs.Prelude.{Bool, ◌&&◌, not, Option, None, Some, All, filter, nat_lt}
use Rattle.std.specs.List.{position_or_len, list_any}
use Rattle.std.specs.Map.{values_of}
use Rattle.std.specs.Ordering.{nat_cmp}
use Rattle.std.proofs.lemmas.Bool.{or_parts}
use Rattle.std.proofs.lemmas.Bool.Decides.{nat_tests}
use Rattle.std.proofs.lemmas.List.{length-take}
use Rattle.std.proofs.lemmas.List.Elements.{All-filter, All-map, All-head, All-tail, filter_passes}
use Rattle.std.proofs.lemmas.List.Sums.{fails_before_first}
use Rattle.std.proofs.lemmas.Map.Views.{All-values-insert_entry}
use Rattle.elf_load.specs.declared.fault.ElfFault.{ElfFault}
use Rattle.elf_load.specs.declared.fault.ElfFault.TheVariants.{Interpreter, SegmentOutOfFile, BadSegment, SharedPage, WritableCode, OutsideUser, TooManyPages, BadEntry}
use Rattle.elf_load.specs.declared.fields.ProgramHeader.{ProgramHeader}
use Rattle.elf_load.specs.Elf.{in_order, segment_of}
use Rattle.elf_load.specs.Image.{IsSegment}
use Rattle.elf_load.specs.Symbols.{by_address}
use Rattle.elf_load.specs.Tests.{first_fault, at_first, where_it, segment_tests, first_segment, first_sharing, are_too_many_pages, is_entry, is_dynamic, is_segment, can_write, can_execute, ends_past_file, is_malformed, is_outside_user}

-- no fault of a list of tests is no fault of the first and none of the others
none_of : (o : Option ElfFault) (rest : List (Option ElfFault)) → first_fault (o ∷ rest) ≡ None → (o ≡ None) × (first_fault rest ≡ None)
none_of None rest is = (refl, is)
none_of (Some fault) rest is = cc

no_first : (o : Option ℕ) (fault : ℕ → ElfFault) → at_first o fault ≡ None → o ≡ None
no_first None fault is = refl
no_first (Some k) fault is = cc

-- no segment fails a test that found none
abbrev pub Holds : (ProgramHeader → Bool) → List ProgramHeader → Type 0
Holds test headers = All (λ header. is_segment header ≡ true → test header ≡ false) headers

none_fails : (test : ProgramHeader → Bool) (headers : List ProgramHeader) → first_segment test headers ≡ None → Holds test headers
unfolding first_segment
none_fails test headers none k d lt is =
    let p : ProgramHeader → Bool = λ header. is_segment header && test header in
    let past : length headers ≤ position_or_len p headers = grind (arith, nat_tests) in
    let fails : p (get_or headers k d) ≡ false = fails_before_first p headers k d (omega arith) in
    ap (λ (b : Bool). b && test (get_or headers k d)) (sym is) ∙ fails

no_fault : (test : Bool) (fault : ElfFault) → where_it test fault ≡ None → test ≡ false
no_fault true fault is = cc
no_fault false fault is = refl

passes : (test : Bool) → not test ≡ false → test ≡ true
passes true is = refl
passes false is = cc

-- what the tests of the segments say
pub record Passed (size entry : ℕ) (headers : List ProgramHeader) : Type 0 where
  pub in_file : Holds (ends_past_file size) headers
  pub formed : Holds is_malformed headers
  pub sharing : first_sharing headers ≡ None
  pub fixed : Holds (λ header. can_write header && can_execute header) headers
  pub inside : Holds is_outside_user headers
  pub pages : are_too_many_pages headers ≡ false
  pub enters : is_entry entry headers ≡ true

three_none : (a b c : Option ElfFault) (rest : List (Option ElfFault)) → first_fault (a ∷ b ∷ c ∷ rest) ≡ None → (a ≡ None) × (b ≡ None) × (c ≡ None) × (first_fault rest ≡ None)
three_none a b c rest is =
    let two = none_of a (b ∷ c ∷ rest) is in
    let three = none_of b (c ∷ rest) two.1 in
    let four = none_of c rest three.1 in
    (two.0, three.0, four.0, four.1)

pub passed : (size entry : ℕ) (headers : List ProgramHeader) → None ≡ first_fault (segment_tests size entry headers) → Passed size entry headers
passed size entry headers is =
    let pages = where_it (are_too_many_pages headers) TooManyPages in
    let start = where_it (not (is_entry entry headers)) BadEntry in
    let sharing = at_first (first_sharing headers) SharedPage in
    let writable = at_first (first_segment (λ header. can_write header && can_execute header) headers) WritableCode in
    let outside = at_first (first_segment is_outside_user headers) OutsideUser in
    let early = three_none (where_it (list_any is_dynamic headers) Interpreter) (at_first (first_segment (ends_past_file size) headers) SegmentOutOfFile) (at_first (first_segment is_malformed headers) BadSegment) (sharing ∷ writable ∷ outside ∷ pages ∷ start ∷ []) (sym is) in
    let middle = three_none sharing writable outside (pages ∷ start ∷ []) early.3 in
    let late = none_of pages (start ∷ []) middle.3 in
    record {
      in_file = none_fails (ends_past_file size) headers (no_first (first_segment (ends_past_file size) headers) SegmentOutOfFile early.1);
      formed = none_fails is_malformed headers (no_first (first_segment is_malformed headers) BadSegment early.2);
      sharing = no_first (first_sharing headers) SharedPage middle.0;
      fixed = none_fails (λ header. can_write header && can_execute header) headers (no_first (first_segment (λ header. can_write header && can_execute header) headers) WritableCode middle.1);
      inside = none_fails is_outside_user headers (no_first (first_segment is_outside_user headers) OutsideUser middle.2);
      pages = no_fault (are_too_many_pages headers) TooManyPages late.0;
      enters = passes (is_entry entry headers) (no_fault (not (is_entry entry headers)) BadEntry (none_of start [] late.1).0);
    }

-- what holds of each entry holds of each in order of address
all_by_address : {X : Type 0} (P : X → Type 0) (es : List (ℕ × X)) → All P (values_of es) → All P (values_of (by_address es))
unfolding by_address
all_by_address P [] all = all
all_by_address P (e ∷ es) all = All-values-insert_entry nat_cmp e.0 e.1 P (by_address es) (all_by_address P es (All-tail P e.1 (values_of es) all)) (All-head P e.1 (values_of es) all)

-- what holds of each segment holds of each in order of address
pub all_in_order : (P : ProgramHeader → Type 0) (headers : List ProgramHeader) → All (λ header. is_segment header ≡ true → P header) headers → All P (in_order headers)
unfolding in_order
all_in_order P headers all =
    let among = All-filter is_segment (λ header. is_segment header ≡ true → P header) headers all in
    let are = filter_passes is_segment headers in
    let at : ProgramHeader → ℕ × ProgramHeader = λ header. (header.address, header) in
    let each : All P (filter is_segment headers) = λ k d lt. among k d lt (are k d lt) in
    all_by_address P (map at (filter is_segment headers)) (All-map P (λ (e : ℕ × ProgramHeader). e.1) (map at (filter is_segment headers)) (All-map (λ (e : ℕ × ProgramHeader). P e.1) at (filter is_segment headers) each))

-- what the tests of one segment say
sizes_of : (header : ProgramHeader) → is_malformed header ≡ false → header.file_size ≤ header.memory_size
sizes_of header formed =
    let fits : nat_lt header.memory_size header.file_size ≡ false = (or_parts (nat_lt header.memory_size header.file_size) _ formed).0 in
    grind (arith, nat_tests)

place_of : (header : ProgramHeader) → is_outside_user header ≡ false → (0x1000 ≤ header.address) × (header.address + header.memory_size ≤ 0x40000000)
place_of header inside =
    let parts = or_parts (nat_lt header.address 0x1000) (nat_lt 0x40000000 (header.address + header.memory_size)) inside in
    let low = parts.0 in
    let high = parts.1 in
    (grind (arith, nat_tests), grind (arith, nat_tests))

segment_is : (file : List ℕ) (header : ProgramHeader) → is_segment header ≡ true → is_malformed header ≡ false → is_outside_user header ≡ false → IsSegment (segment_of file header)
segment_is file header is formed inside =
    let sizes = sizes_of header formed in
    let place = place_of header inside in
    let bytes = length-take (header.offset + header.file_size - header.offset) (drop header.offset file) in
    record { some = grind (arith, nat_tests); above = place.0; below = place.1; fits = omega arith }

pub segments_are : (file : List ℕ) (size entry : ℕ) (headers : List ProgramHeader) → Passed size entry headers → All IsSegment (map (segment_of file) (in_order headers))
segments_are file size entry headers p =
    All-map IsSegment (segment_of file) (in_order headers)
    (all_in_order (λ header. IsSegment (segment_of file header)) headers (λ k d lt is. segment_is file (get_or headers k d) is (p.formed k d lt is) (p.inside k d lt is)))

pub ordered_in_file : (size entry : ℕ) (headers : List ProgramHeader) → Passed size entry headers → All (λ header. ends_past_file size header ≡ false) (in_order headers)
ordered_in_file size entry headers p = all_in_order (λ header. ends_past_file size header ≡ false) headers p.in_file

pub addresses_fit : (size entry : ℕ) (headers : List ProgramHeader) → Passed size entry headers → All (λ segment. is_segment segment ≡ true → segment.address + segment.file_size ≤ 2 ^ 30) headers
addresses_fit size entry headers p k d lt is =
    let sizes = sizes_of (get_or headers k d) (p.formed k d lt is) in
    let place = place_of (get_or headers k d) (p.inside k d lt is) in
    omega (arith, place.1)
