-- The bytes at an address, out of the list of all bytes.
use Rattle.std.proofs.Common.{◌≡◌, ℕ, ◌+◌, ◌%◌, ◌^◌, ◌<◌, ◌≤◌, ◌⊎◌, List, length, get_or, sym, ap, ◌∙◌, inl, inr, arith}
use Rattle.std.proofs.lemmas.List.FromFn.{fill_by_all}
use Rattle.guest_model.specs.Areas.{wrap}
use Rattle.guest_model.specs.Bytes.{Bytes, byte_at, bytes_at, number_of}

not_wrapped : (a : ℕ) → a < 2 ^ 32 → wrap a ≡ a
not_wrapped a lt = omega arith

below : (a n i : ℕ) → a < 2 ^ 32 → a % 4096 + n ≤ 4096 → i < n → a + i < 2 ^ 32
below a n i fits within lt = omega arith

-- bytes that are read one by one
pub bytes_read : (m : Bytes) (a n : ℕ) (xs : List ℕ) → length xs ≡ n → ((i : ℕ) → i < n → get_or xs i 0 ≡ byte_at m (wrap (a + i))) → xs ≡ bytes_at m a n
bytes_read m a n xs len is = fill_by_all (λ i. byte_at m (wrap (a + i))) xs n 0 len is

-- bytes that are read as a part of one page
pub bytes_in_page : (m : Bytes) (all : List ℕ) (a n : ℕ) (xs : List ℕ) → ((q : ℕ) → byte_at m q ≡ get_or all q 0) → a < 2 ^ 32 → a % 4096 + n ≤ 4096 → length xs ≡ n
    → ((i : ℕ) → i < n → get_or xs i 0 ≡ get_or all (a + i) 0) → xs ≡ bytes_at m a n
bytes_in_page m all a n xs holds fits within len is =
    bytes_read m a n xs len (λ i lt. is i lt ∙ sym (holds (a + i)) ∙ ap (byte_at m) (sym (not_wrapped (a + i) (below a n i fits within lt))))

zero_byte : (m : Bytes) (all : List ℕ) (a n i : ℕ) → ((q : ℕ) → byte_at m q ≡ get_or all q 0) → a < 2 ^ 32 → a % 4096 + n ≤ 4096 → ((i : ℕ) → i < n → get_or all (a + i) 0 ≡ 0) → i < n → byte_at m (wrap (a + i)) ≡ 0
zero_byte m all a n i holds fits within zeros lt = ap (byte_at m) (not_wrapped (a + i) (below a n i fits within lt)) ∙ holds (a + i) ∙ zeros i lt

-- the number of bytes that are all 0
pub number_of_zeros : (m : Bytes) (all : List ℕ) (a n : ℕ) → (n ≡ 1) ⊎ ((n ≡ 2) ⊎ (n ≡ 4)) → ((q : ℕ) → byte_at m q ≡ get_or all q 0) → a < 2 ^ 32 → a % 4096 + n ≤ 4096
    → ((i : ℕ) → i < n → get_or all (a + i) 0 ≡ 0) → 0 ≡ number_of (bytes_at m a n)
number_of_zeros m all a n size holds fits within zeros =
    let byte = λ (i : ℕ) (lt : i < n). zero_byte m all a n i holds fits within zeros lt in
    elim size [
      | inl e ↦ omega (arith, byte 0 (omega arith), ap (λ k. number_of (bytes_at m a k)) e)
      | inr h ↦ elim h [
        | inl e ↦ omega (arith, byte 0 (omega arith), byte 1 (omega arith), ap (λ k. number_of (bytes_at m a k)) e)
        | inr e ↦ omega (arith, byte 0 (omega arith), byte 1 (omega arith), byte 2 (omega arith), byte 3 (omega arith), ap (λ k. number_of (bytes_at m a k)) e)
      ]
    ]
