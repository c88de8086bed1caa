-- The first fault of all tests, from those of each part.
use Rattle.std.proofs.Common.{◌≡◌, ◌≤◌, ℕ, List, [], ◌∷◌, ◌++◌, length, true, false, refl, sym, ap, ◌∙◌, arith}
use Rattle.std.specs.Prelude.{Bool, Option, None, Some}
use Rattle.std.specs.Option.{option_or}
use Rattle.std.proofs.lemmas.List.FromFn.{length-map-range_with_len}
use Rattle.elf_load.specs.declared.fault.ElfFault.{ElfFault}
use Rattle.elf_load.specs.declared.fault.ElfFault.TheVariants.{BadSymbols}
use Rattle.elf_load.specs.declared.fields.FileHeader.{FileHeader}
use Rattle.elf_load.specs.declared.fields.ProgramHeader.{ProgramHeader}
use Rattle.elf_load.specs.Elf.{refusal_of}
use Rattle.elf_load.specs.Header.{file_header, program_headers, nth_program_header}
use Rattle.elf_load.specs.Symbols.{are_bad_symbols}
use Rattle.elf_load.specs.Tests.{first_fault, where_it, identification_tests, header_tests, segment_tests}

first_fault-append : (xs ys : List (Option ElfFault)) → first_fault (xs ++ ys) ≡ option_or (first_fault xs) (first_fault ys)
first_fault-append [] ys = refl
first_fault-append (None ∷ xs) ys = first_fault-append xs ys
first_fault-append (Some fault ∷ xs) ys = refl

abbrev first_of_four : Option ElfFault → Option ElfFault → Option ElfFault → Option ElfFault → Option ElfFault
first_of_four a b c d = option_or (option_or (option_or a b) c) d

of_four : (xs ys zs us : List (Option ElfFault)) → first_fault (xs ++ ys ++ zs ++ us) ≡ first_of_four (first_fault xs) (first_fault ys) (first_fault zs) (first_fault us)
of_four xs ys zs us =
    first_fault-append (xs ++ ys ++ zs) us
    ∙ ap (λ o. option_or o (first_fault us))
    (first_fault-append (xs ++ ys) zs ∙ ap (λ o. option_or o (first_fault zs)) (first_fault-append xs ys))

module _ (file : List ℕ) where
  abbrev pub of_identification : Option ElfFault
  of_identification = first_fault (identification_tests file)

  abbrev pub of_header : FileHeader → Option ElfFault
  of_header header = first_fault (header_tests header (length file))

  abbrev pub of_segments : FileHeader → List ProgramHeader → Option ElfFault
  of_segments header headers = first_fault (segment_tests (length file) header.entry headers)

  abbrev of_symbols : Bool → Option ElfFault
  of_symbols bad = first_fault (where_it bad BadSymbols ∷ [])

  parts : refusal_of file ≡ first_of_four of_identification (of_header (file_header file)) (of_segments (file_header file) (program_headers file)) (of_symbols (are_bad_symbols file))
  unfolding refusal_of
  parts = of_four (identification_tests file) (header_tests (file_header file) (length file)) (segment_tests (length file) (file_header file).entry (program_headers file)) (where_it (are_bad_symbols file) BadSymbols ∷ [])

  -- the same by the parts' own values
  all : (a b c : Option ElfFault) (bad : Bool) → a ≡ of_identification → b ≡ of_header (file_header file) → c ≡ of_segments (file_header file) (program_headers file) → bad ≡ are_bad_symbols file → refusal_of file ≡ first_of_four a b c (of_symbols bad)
  all a b c bad p q r s =
      parts
      ∙ (ap (λ o. first_of_four o (of_header (file_header file)) (of_segments (file_header file) (program_headers file)) (of_symbols (are_bad_symbols file))) (sym p)
      ∙ (ap (λ o. first_of_four a o (of_segments (file_header file) (program_headers file)) (of_symbols (are_bad_symbols file))) (sym q)
      ∙ (ap (λ o. first_of_four a b o (of_symbols (are_bad_symbols file))) (sym r)
      ∙ ap (λ o. first_of_four a b c (of_symbols o)) (sym s))))

  pub by_identification : (fault : ElfFault) → Some fault ≡ of_identification → refusal_of file ≡ Some fault
  by_identification fault p = all (Some fault) _ _ _ p refl refl refl

  module _ (header : FileHeader) (same : header ≡ file_header file) (first : None ≡ of_identification) where
    pub by_header : (fault : ElfFault) → Some fault ≡ of_header header → refusal_of file ≡ Some fault
    by_header fault q = all None (Some fault) _ _ first (q ∙ ap of_header same) refl refl

    module _ (headers : List ProgramHeader) (table : headers ≡ program_headers file) (second : None ≡ of_header header) where
      same_segments : of_segments header headers ≡ of_segments (file_header file) (program_headers file)
      same_segments = ap (λ (h : FileHeader). of_segments h headers) same ∙ ap (of_segments (file_header file)) table

      pub by_segments : (fault : ElfFault) → Some fault ≡ of_segments header headers → refusal_of file ≡ Some fault
      by_segments fault r = all None None (Some fault) _ first (second ∙ ap of_header same) (r ∙ same_segments) refl

      pub by_symbols : (bad : Bool) → None ≡ of_segments header headers → bad ≡ are_bad_symbols file → bad ≡ true → refusal_of file ≡ Some BadSymbols
      by_symbols bad r s is = all None None None bad first (second ∙ ap of_header same) (r ∙ same_segments) s ∙ ap of_symbols is

      pub by_none : (bad : Bool) → None ≡ of_segments header headers → bad ≡ are_bad_symbols file → bad ≡ false → refusal_of file ≡ None
      by_none bad r s is = all None None None bad first (second ∙ ap of_header same) (r ∙ same_segments) s ∙ ap of_symbols is

-- the program headers are few
pub few_headers : (file : List ℕ) (header : FileHeader) (headers : List ProgramHeader) → header ≡ file_header file → headers ≡ program_headers file → header.program_header_count ≤ 32 → length headers ≤ 32
unfolding program_headers
few_headers file header headers same table few =
    let count : header.program_header_count ≡ (file_header file).program_header_count = ap (λ (h : FileHeader). h.program_header_count) same in
    let len : length headers ≡ (file_header file).program_header_count = ap length table ∙ length-map-range_with_len (nth_program_header file) 0 (file_header file).program_header_count in
    omega arith
