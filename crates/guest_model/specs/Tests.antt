-- The tests of a position of a play against the one at which it is to end, and how many positions pass each.
use Rattle.std.specs.Prelude.{◌≡◌, ℕ, ◌+◌, ◌⊎◌, List, [], ◌∷◌, slice_index}
use Rattle.guest_model.specs.Bytes.{bytes_at}
use Rattle.guest_model.specs.Machine.{Machine, register}
use Rattle.guest_model.specs.Play.{Spot}
use Rattle.guest_model.specs.declared.platform.TheConstants.{SIGNATURE_BYTES}

-- what a position is first known by: pc, the record position, the registers, and the bytes from the stack pointer on
pub record SignatureFields : Type 0 where
  pub pc : ℕ
  pub calls : ℕ
  pub registers : List ℕ
  pub stack : List ℕ

-- the bytes from the stack pointer, x2, on; an address that no area holds counts as 0
abbrev pub stack_of : Machine → List ℕ
stack_of m = bytes_at m.space.bytes (register m 2) SIGNATURE_BYTES

abbrev pub signature_of : Spot → SignatureFields
signature_of s = record { pc = s.machine.pc; calls = s.calls; registers = s.machine.registers; stack = stack_of s.machine }

-- pc, the record position, x10 and x15 are equal
pub record IsQuickEqual (target s : SignatureFields) : Type 0 where
  pub pc : s.pc ≡ target.pc
  pub calls : s.calls ≡ target.calls
  pub x10 : slice_index s.registers 10 ≡ slice_index target.registers 10
  pub x15 : slice_index s.registers 15 ≡ slice_index target.registers 15

abbrev pub HasRegistersOf : SignatureFields → SignatureFields → Type 0
HasRegistersOf target s = s.registers ≡ target.registers

abbrev pub HasStackOf : SignatureFields → SignatureFields → Type 0
HasStackOf target s = s.stack ≡ target.stack

-- the four tests, each made where the ones before it pass: the quick one, then all registers, then the stack, then the
-- whole state with the record position
abbrev pub PassesQuick : Spot → Spot → Type 0
PassesQuick target s = IsQuickEqual (signature_of target) (signature_of s)

abbrev pub PassesRegisters : Spot → Spot → Type 0
PassesRegisters target s = PassesQuick target s × HasRegistersOf (signature_of target) (signature_of s)

abbrev pub PassesStack : Spot → Spot → Type 0
PassesStack target s = PassesRegisters target s × HasStackOf (signature_of target) (signature_of s)

abbrev pub PassesWhole : Spot → Spot → Type 0
PassesWhole target s = PassesStack target s × (s ≡ target)

-- this many of the list are such
unfoldable pub IsCount : {A : Type 0} → (A → Type 0) → List A → ℕ → Type 0
IsCount P [] n = n ≡ 0
IsCount P (x ∷ xs) n = (P x × ((k : ℕ) × ((n ≡ k + 1) × IsCount P xs k))) ⊎ ((P x → ⊥) × IsCount P xs n)

pub record HitCounts : Type 0 where
  pub quick : ℕ
  pub registers : ℕ
  pub stack : ℕ
  pub whole : ℕ

-- so many of the positions pass each test against this one
pub record AreHits (target : Spot) (spots : List Spot) (hits : HitCounts) : Type 0 where
  pub quick : IsCount (PassesQuick target) spots hits.quick
  pub registers : IsCount (PassesRegisters target) spots hits.registers
  pub stack : IsCount (PassesStack target) spots hits.stack
  pub whole : IsCount (PassesWhole target) spots hits.whole

-- of a slice that ends with the run nothing is tested
abbrev pub no_hits : HitCounts
no_hits = record { quick = 0; registers = 0; stack = 0; whole = 0 }
