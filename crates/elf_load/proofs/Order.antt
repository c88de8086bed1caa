-- The segments in order of address.
use Rattle.std.proofs.Common.{◌≡◌, ◌<◌, ◌+◌, ℕ, List, [], ◌∷◌, length, drop, get_or, map, true, false, cond, sym, ap, ◌∙◌, add-one}
use Rattle.std.specs.Prelude.{Bool, filter}
use Rattle.std.specs.Ordering.{nat_cmp}
use Rattle.std.specs.BTreeMap.{insert_entry}
use Rattle.std.proofs.Math.Seq.{drop-cons, drop-length}
use Rattle.elf_load.specs.declared.fields.ProgramHeader.{ProgramHeader}
use Rattle.elf_load.specs.Symbols.{by_address}
use Rattle.elf_load.specs.Tests.{is_segment}

-- the segments of these headers, by address
abbrev pub by_start : List ProgramHeader → List (ℕ × ProgramHeader)
by_start headers = by_address (map (λ header. (header.address, header)) (filter is_segment headers))

-- those of the headers from index k on
abbrev pub segments_from : List ProgramHeader → ℕ → List (ℕ × ProgramHeader)
segments_from headers k = by_start (drop k headers)

one_more : (header : ProgramHeader) (rest : List ProgramHeader) (b : Bool) → is_segment header ≡ b → by_start (header ∷ rest) ≡ by_address (map (λ header. (header.address, header)) (cond b (header ∷ filter is_segment rest) (filter is_segment rest)))
one_more header rest b is = ap (λ (b : Bool). by_address (map (λ header. (header.address, header)) (cond b (header ∷ filter is_segment rest) (filter is_segment rest)))) is

module _ (headers : List ProgramHeader) (k : ℕ) (d : ProgramHeader) (lt : k < length headers) (old : List (ℕ × ProgramHeader)) (before : old ≡ segments_from headers (k + 1)) where
  front : drop k headers ≡ get_or headers k d ∷ drop (k + 1) headers
  front = drop-cons headers k d lt ∙ ap (λ n. get_or headers k d ∷ drop n headers) (sym (add-one k))

  -- the header before these is a segment
  pub segment_kept : (new : List (ℕ × ProgramHeader)) → is_segment (get_or headers k d) ≡ true → new ≡ insert_entry nat_cmp old (get_or headers k d).address (get_or headers k d) → new ≡ segments_from headers k
  unfolding by_address front
  segment_kept new is inserted =
      inserted ∙ (ap (λ es. insert_entry nat_cmp es (get_or headers k d).address (get_or headers k d)) before
      ∙ (sym (one_more (get_or headers k d) (drop (k + 1) headers) true is) ∙ ap by_start (sym front)))

  -- it is none
  pub segment_passed : is_segment (get_or headers k d) ≡ false → old ≡ segments_from headers k
  segment_passed is =
      before ∙ (sym (one_more (get_or headers k d) (drop (k + 1) headers) false is) ∙ ap by_start (sym front))

-- behind the last header there is none
pub none_behind : (headers : List ProgramHeader) → segments_from headers (length headers) ≡ []
unfolding by_address
none_behind headers = ap by_start (drop-length headers)
