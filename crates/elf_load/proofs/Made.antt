-- The image, from its parts.
use Rattle.std.proofs.Common.{◌≡◌, ℕ, List, map, ap, ◌∙◌}
use Rattle.elf_load.specs.declared.fields.FileHeader.{FileHeader}
use Rattle.elf_load.specs.declared.fields.ProgramHeader.{ProgramHeader}
use Rattle.elf_load.specs.Elf.{in_order, segment_of, table_address, image_of}
use Rattle.elf_load.specs.Header.{file_header, program_headers}
use Rattle.elf_load.specs.Image.{ImageFields, SegmentFields, FunctionFields}
use Rattle.elf_load.specs.Symbols.{functions}

abbrev pub made : FileHeader → ℕ → List SegmentFields → List FunctionFields → ImageFields
made header phdr segments functions = record { entry = header.entry; phdr = phdr; phnum = header.program_header_count; segments = segments; functions = functions }

abbrev of_headers : List ℕ → FileHeader → List ProgramHeader → ImageFields
of_headers file header headers = made header (table_address header headers) (map (segment_of file) (in_order headers)) (functions file headers)

pub image_is : (file : List ℕ) (header : FileHeader) (headers : List ProgramHeader) (phdr : ℕ) (segments : List SegmentFields) (found : List FunctionFields) → header ≡ file_header file → headers ≡ program_headers file → phdr ≡ table_address header headers → segments ≡ map (segment_of file) (in_order headers) → found ≡ functions file headers → made header phdr segments found ≡ image_of file
unfolding image_of
image_is file header headers phdr segments found same table at are named =
    ap (λ p. made header p segments found) at
    ∙ (ap (λ s. made header (table_address header headers) s found) are
    ∙ (ap (λ f. made header (table_address header headers) (map (segment_of file) (in_order headers)) f) named
    ∙ (ap (λ (h : FileHeader). of_headers file h headers) same ∙ ap (of_headers file (file_header file)) table)))
