-- A guest's memory: areas over a flat map of bytes.
use Rattle.std.specs.Prelude.{◌≡◌, ℕ, Bool, Option, Some, None, List, is_some, if◌then◌else◌, refl}
use Rattle.std.specs.FinMap as flat
use Rattle.std.specs.Coded.{Coded, coded_ℕ, coded_bool, coded_list, coded×, code_by}
use Rattle.guest_model.specs.Areas.{is_mapped, all_permitted}
use Rattle.guest_model.specs.Bytes.{Bytes, bytes_at, number_of, low_bytes, put_bytes}
use Rattle.guest_model.specs.declared.Area.{Area}
use Rattle.guest_model.specs.declared.Access.{Access}
use Rattle.guest_model.specs.declared.Access.TheVariants.{Write}

pub record Space : Type 0 where
  -- a byte for each address that lies in an area
  pub bytes : Bytes
  -- ordered by start, then by end
  pub areas : List Area
  -- where the heap ends
  pub heap_break : ℕ
  -- where the next map starts
  pub next_map : ℕ

-- the keys are the addresses that lie in an area
abbrev pub HasBytesOfAreas : Space → Type 0
HasBytesOfAreas s = (a : ℕ) → is_some (flat.get s.bytes a) ≡ is_mapped s.areas a

abbrev pub with_bytes : Space → Bytes → Space
with_bytes s m = record s { bytes = m }

-- the number of the n bytes from a on, where each of them may be accessed so
unfoldable pub read_number : Access → Space → ℕ → ℕ → Option ℕ
read_number access s a n = if all_permitted access s.areas a n then Some (number_of (bytes_at s.bytes a n)) else None

-- the space after a store of the n low bytes of v from a on, where each may be written
unfoldable pub write_number : Space → ℕ → ℕ → ℕ → Option Space
write_number s a n v = if all_permitted Write s.areas a n then Some (with_bytes s (put_bytes s.bytes a (low_bytes n v))) else None

-- how a space is stored as plain data
abbrev pub area_code : Coded Area
area_code = code_by (ℕ × (ℕ × (Bool × (Bool × Bool)))) (coded× coded_ℕ (coded× coded_ℕ (coded× coded_bool (coded× coded_bool coded_bool))))
    (λ a. (a.start, (a.end, (a.read, (a.write, a.execute)))))
    (λ p. record { start = p.0; end = p.1.0; read = p.1.1.0; write = p.1.1.1.0; execute = p.1.1.1.1 }) (λ _. refl)

abbrev pub space_code : Coded Space
space_code = code_by (Bytes × (List Area × (ℕ × ℕ))) (coded× (flat.code coded_ℕ coded_ℕ) (coded× (coded_list area_code) (coded× coded_ℕ coded_ℕ)))
    (λ s. (s.bytes, (s.areas, (s.heap_break, s.next_map))))
    (λ p. record { bytes = p.0; areas = p.1.0; heap_break = p.1.1.0; next_map = p.1.1.1 }) (λ _. refl)
