-- The numbers of the loader that no standard gives.
use Rattle.std.specs.Prelude.{ℕ}

-- the bytes of a page
abbrev pub page_size : ℕ
page_size = 4096

-- the most program headers that a file may have
abbrev pub most_headers : ℕ
most_headers = 32

-- where the memory of a program begins and ends
abbrev pub user_start : ℕ
user_start = 0x1000

abbrev pub user_end : ℕ
user_end = 0x40000000

-- the most pages that a program may have, with those of its stack
abbrev pub most_pages : ℕ
most_pages = 16384

-- the pages of the stack
abbrev pub stack_pages : ℕ
stack_pages = 256
