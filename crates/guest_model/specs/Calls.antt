-- The calls of a guest, a row each (Linux, RISC-V with 32 bits): its number is in x17, its arguments are in x10 to x15.
-- The tests of a call are made in the order written; the first that fails gives the result, and nothing else changes.
use Rattle.std.specs.Prelude.{ℕ, ◌+◌, ◌-◌, ◌*◌, ◌%◌, ◌==◌, Bool, ◌||◌, not, nat_lt, nat_le, List, [], ◌∷◌, map, filter, take, min, Option, None, Some, if◌then◌else◌}
use Rattle.std.specs.List.{list_all, flat_map, range_with_len}
use Rattle.std.specs.Option.{option_map}
use Rattle.guest_model.specs.Areas.{is_range_permitted}
use Rattle.guest_model.specs.Bytes.{bytes_at, number_of}
use Rattle.guest_model.specs.Errors.{failure}
use Rattle.guest_model.specs.Machine.{Machine, register}
use Rattle.guest_model.specs.Maps.{Changed, grow_of, map_of, unmap_of}
use Rattle.guest_model.specs.Range.{Range, range, total_size}
use Rattle.guest_model.specs.declared.Access.TheVariants.{Read as for_reading, Write as for_writing}
use Rattle.guest_model.specs.declared.platform.TheConstants.{EBADF, EFAULT, EINVAL, ENOTTY, MOST_RANGES, MOST_READ, MOST_SENT, MOST_USED, PROCESS, TIMESPEC_SIZE}
use Rattle.guest_model.specs.declared.system_call.SystemCall.{SystemCall}
use Rattle.guest_model.specs.declared.system_call.SystemCall.TheVariants.{Ioctl, Read, Write, Readv, Writev, Exit, ExitGroup, SetTidAddress, Getpid, Gettid, Brk, Munmap, Mmap2, ClockGettime64}

-- the numbers of the calls (Linux, asm-generic/unistd.h)
unfoldable pub call_numbered : ℕ → Option SystemCall
call_numbered number =
    if number == 29 then Some Ioctl
    else if number == 63 then Some Read
    else if number == 64 then Some Write
    else if number == 65 then Some Readv
    else if number == 66 then Some Writev
    else if number == 93 then Some Exit
    else if number == 94 then Some ExitGroup
    else if number == 96 then Some SetTidAddress
    else if number == 172 then Some Getpid
    else if number == 178 then Some Gettid
    else if number == 214 then Some Brk
    else if number == 215 then Some Munmap
    else if number == 222 then Some Mmap2
    else if number == 403 then Some ClockGettime64
    else None

-- what a call does, once its tests are made
pub data Deed : Type 0 where
  -- this is its result, and nothing else changes
  Answers : (answer : ℕ) → Deed
  -- the first bytes of the input left fill these ranges in order, and their number is the result
  Takes : (into : List Range) → Deed
  -- these bytes go to a port, and this is the result: port 1 is the standard output, port 2 the standard error
  Sends : (port : ℕ) (bytes : List ℕ) (answer : ℕ) → Deed
  -- one moment is taken and stored at this address, and the result is 0
  Tells : (at : ℕ) → Deed
  -- the areas change, and with them comes the result
  Maps : (changed : Changed) → Deed
  -- the run ends with this status
  Ends : (status : ℕ) → Deed

abbrev pub call_number : Machine → ℕ
call_number m = register m 17

-- argument 0 to 5
abbrev pub argument : Machine → ℕ → ℕ
argument m k = register m (10 + k)

-- the standard input is descriptor 0, the standard output 1, the standard error 2
abbrev pub is_output : ℕ → Bool
is_output descriptor = descriptor == 1 || descriptor == 2

abbrev pub is_open : ℕ → Bool
is_open descriptor = descriptor == 0 || is_output descriptor

abbrev pub can_read : Machine → ℕ → ℕ → Bool
can_read m a n = is_range_permitted for_reading m.space.areas a n

abbrev pub can_write : Machine → ℕ → ℕ → Bool
can_write m a n = is_range_permitted for_writing m.space.areas a n

-- ioctl: no descriptor is a terminal
abbrev pub ioctl_row : Machine → Deed
ioctl_row m = Answers (if is_open (argument m 0) then failure ENOTTY else failure EBADF)

-- read(2): the first bytes of the input left go to a buffer
abbrev pub read_row : Machine → Deed
read_row m =
    if not (argument m 0 == 0) then Answers (failure EBADF)
    else if not (can_write m (argument m 1) (min (argument m 2) MOST_READ)) then Answers (failure EFAULT)
    else Takes (range (argument m 1) (min (argument m 2) MOST_READ) ∷ [])

-- write(2): the bytes of a buffer go to a port
abbrev pub write_row : Machine → Deed
write_row m =
    if not (is_output (argument m 0)) then Answers (failure EBADF)
    else if not (can_read m (argument m 1) (argument m 2)) then Answers (failure EFAULT)
    else Sends (argument m 0) (bytes_at m.space.bytes (argument m 1) (argument m 2)) (argument m 2)

-- an entry of the array of readv and writev (struct iovec, readv(2)): an address and a number of bytes, each of four bytes
abbrev pub word_at : Machine → ℕ → ℕ
word_at m a = number_of (bytes_at m.space.bytes a 4)

abbrev pub range_at : Machine → ℕ → Range
range_at m a = range (word_at m a) (word_at m (a + 4))

-- the array that arguments 1 and 2 name
unfoldable pub array_of : Machine → List Range
array_of m = map (λ k. range_at m (argument m 1 + 8 * k)) (range_with_len 0 (argument m 2))

abbrev pub can_read_array : Machine → Bool
can_read_array m = can_read m (argument m 1) (8 * argument m 2)

-- ranges cut after so many bytes in all
abbrev pub cut_to : ℕ → List Range → List Range
cut_to room [] = []
cut_to room (r ∷ rs) = record r { size = min r.size room } ∷ cut_to (room - min r.size room) rs

-- readv uses the first 8 ranges that have bytes, and no more than one call takes
unfoldable pub used_ranges : List Range → List Range
used_ranges ranges = cut_to MOST_READ (take MOST_USED (filter (λ r. not (r.size == 0)) ranges))

-- readv(2): the first bytes of the input left go to the ranges of an array
abbrev pub readv_row : Machine → Deed
readv_row m =
    if not (argument m 0 == 0) then Answers (failure EBADF)
    else if nat_lt MOST_RANGES (argument m 2) then Answers (failure EINVAL)
    else if not (can_read_array m) then Answers (failure EFAULT)
    else if not (list_all (λ r. can_write m r.at r.size) (used_ranges (array_of m))) then Answers (failure EFAULT)
    else Takes (used_ranges (array_of m))

-- writev(2): the bytes of the ranges of an array go to a port, in order
abbrev pub range_bytes : Machine → Range → List ℕ
range_bytes m r = bytes_at m.space.bytes r.at r.size

abbrev pub writev_row : Machine → Deed
writev_row m =
    if not (is_output (argument m 0)) then Answers (failure EBADF)
    else if nat_lt MOST_RANGES (argument m 2) then Answers (failure EINVAL)
    else if not (can_read_array m) then Answers (failure EFAULT)
    else if nat_lt MOST_SENT (total_size (array_of m)) then Answers (failure EINVAL)
    else if not (list_all (λ r. can_read m r.at r.size) (array_of m)) then Answers (failure EFAULT)
    else Sends (argument m 0) (flat_map (range_bytes m) (array_of m)) (total_size (array_of m))

-- clock_gettime64 (clock_gettime(2)): the clocks CLOCK_REALTIME 0 and CLOCK_MONOTONIC 1
abbrev pub clock_row : Machine → Deed
clock_row m =
    if not (nat_le (argument m 0) 1) then Answers (failure EINVAL)
    else if not (can_write m (argument m 1) TIMESPEC_SIZE) then Answers (failure EFAULT)
    else Tells (argument m 1)

-- one row for each call
abbrev pub row_of : SystemCall → Machine → Deed
row_of Ioctl m = ioctl_row m
row_of Read m = read_row m
row_of Write m = write_row m
row_of Readv m = readv_row m
row_of Writev m = writev_row m
row_of Exit m = Ends (argument m 0 % 256)
row_of ExitGroup m = Ends (argument m 0 % 256)
row_of SetTidAddress m = Answers PROCESS
row_of Getpid m = Answers PROCESS
row_of Gettid m = Answers PROCESS
row_of Brk m = Maps (grow_of m.space (argument m 0))
row_of Munmap m = Maps (unmap_of m.space (argument m 0) (argument m 1))
row_of Mmap2 m = Maps (map_of m.space (argument m 1) (argument m 2) (argument m 3))
row_of ClockGettime64 m = clock_row m

-- what the call at m does, if its number has a row
unfoldable pub deed_of : Machine → Option Deed
deed_of m = option_map (λ call. row_of call m) (call_numbered (call_number m))

-- the ranges that a call may store in, whatever the outside answers
abbrev pub storable : Deed → List Range
storable (Answers answer) = []
storable (Takes into) = into
storable (Sends port bytes answer) = []
storable (Tells at) = range at TIMESPEC_SIZE ∷ []
storable (Maps changed) = []
storable (Ends status) = []
