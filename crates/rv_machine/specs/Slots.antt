-- What stands in the room of a descriptor.
use Rattle.std.specs.Prelude.{ℕ, List, [], ◌∷◌, Option, None, Some}
use Rattle.guest_model.specs.Descriptors.{OpenFile}
use Rattle.rv_machine.specs.declared.descriptors.Slot.{Slot}

-- a file of this name at this place; an empty name is none
abbrev pub file_named : List ℕ → ℕ → Option OpenFile
file_named [] offset = None
file_named (b ∷ bs) offset = Some (record { name = b ∷ bs; offset = offset })

abbrev pub file_of : Slot → Option OpenFile
file_of slot = file_named slot.name.bytes slot.offset
