-- Blocks: the instructions that follow one another from an address on, up to and including the first that ends a block.
use Rattle.std.specs.Prelude.{ℕ, zero, suc, ◌+◌, ◌/◌, Option, None, Some, if◌then◌else◌}
use Rattle.std.specs.Option.{option_map}
use Rattle.elf_load.specs.Limits.{user_end}
use Rattle.rv_isa.specs.Kinds.{ends_block}
use Rattle.rv_isa.specs.Table.{Fields}
use Rattle.ins_views.specs.Views.{ViewFields, ins_at}
use Rattle.ins_views.specs.declared.views.Block.{Block}

-- how many instructions an instruction begins, where `rest` follow behind it
abbrev pub count_from : Option Fields → ℕ → ℕ
count_from None rest = 0
count_from (Some i) rest = if ends_block i.op then 1 else suc rest

-- the same from pc on, of `most` addresses
unfoldable pub run_length : ViewFields → ℕ → ℕ → ℕ
run_length views zero pc = 0
run_length views (suc most) pc = count_from (ins_at views pc) (run_length views most (pc + 4))

-- as many words as the user's memory has room for
unfoldable pub most_words : ℕ
most_words = user_end / 4

-- the number of instructions of the block at an address
abbrev pub block_length : ViewFields → ℕ → ℕ
block_length views head = run_length views most_words head

-- the block at an address, where an instruction stands
abbrev pub block_at : ViewFields → ℕ → Option Block
block_at views head = option_map (λ _. record { head = head; len = block_length views head }) (ins_at views head)
