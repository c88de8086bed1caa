-- The bytes from an address on, one after the other.
use Rattle.std.proofs.Common.{◌≡◌, ℕ, ◌+◌, ◌<◌, List, [], ◌∷◌, ◌++◌, get_or, sym, ap, ◌∙◌, arith}
use Rattle.std.proofs.lemmas.List.FromFn.{get_or-map-range_with_len, length-map-range_with_len, map-range_with_len_more}
use Rattle.guest_model.specs.Areas.{wrap}
use Rattle.guest_model.specs.Bytes.{Bytes, byte_at, bytes_at}
use Rattle.std.specs.Prelude.{length}

pub length_window : (m : Bytes) (a n : ℕ) → length (bytes_at m a n) ≡ n
length_window m a n = length-map-range_with_len (λ i. byte_at m (wrap (a + i))) 0 n

pub window_more : (m : Bytes) (a n : ℕ) → bytes_at m a (n + 1) ≡ bytes_at m a n ++ byte_at m (wrap (a + n)) ∷ []
window_more m a n = map-range_with_len_more (λ i. byte_at m (wrap (a + i))) 0 n n (omega arith)

-- a byte of the window
pub window_at : (m : Bytes) (a n i : ℕ) (xs : List ℕ) → bytes_at m a n ≡ xs → i < n → get_or xs i 0 ≡ byte_at m (wrap (a + i))
window_at m a n i xs is lt = ap (λ (ys : List ℕ). get_or ys i 0) (sym is) ∙ get_or-map-range_with_len (λ k. byte_at m (wrap (a + k))) 0 n i i 0 lt (omega arith)
