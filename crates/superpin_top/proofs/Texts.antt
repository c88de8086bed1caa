-- Beginnings of texts.
use Rattle.std.proofs.Common.{◌<◌, ◌≢◌, drop, length-drop, ℕ, List, [], length, ap, arith}

-- behind a proper beginning something is left
pub some_left : (count : ℕ) (bytes : List ℕ) → count < length bytes → drop count bytes ≢ []
some_left count bytes proper none = omega (arith, proper, length-drop count bytes, ap length none)
