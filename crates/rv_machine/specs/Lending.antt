-- What a guest ends as, where its memory is lent.
use Rattle.std.specs.Borrow.{Lends, Fml, MutBor}
use Rattle.guest_mem.specs.Memory.{Memory}
use Rattle.guest_mem.specs.contracts.space.Space.{the_row as space_row}
use Rattle.rv_machine.specs.Guest.{GuestState, with_memory}
use Rattle.rv_machine.specs.contracts.guest.Guest.{the_row}

-- once r ends, the guest g has the memory that was left there, and the rest is as it was
abbrev pub LendsMemory : MutBor GuestState → MutBor Memory → Fml
LendsMemory g r = Lends the_row space_row g r (λ memory. with_memory g.now memory)
