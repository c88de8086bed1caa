-- Ranges that may be written, and what is stored in them.
use Rattle.std.proofs.Common.{◌≡◌, ℕ, ◌+◌, ◌≤◌, ◌^◌, true, List, length, ap, ◌∙◌, arith}
use Rattle.std.specs.Prelude.{nat_le}
use Rattle.std.specs.List.{list_all}
use Rattle.std.proofs.lemmas.Bool.{leb-true, and_from, and_parts}
use Rattle.std.proofs.lemmas.Bool.Decides.{nat_tests}
use Rattle.call_record.specs.Record.{Stored}
use Rattle.guest_model.specs.Areas.{all_permitted, is_range_permitted}
use Rattle.guest_model.specs.Call.{filled}
use Rattle.guest_model.specs.Range.{Range}
use Rattle.guest_model.specs.declared.Area.{Area}
use Rattle.guest_model.specs.declared.Access.{Access}
use Rattle.guest_model.specs.declared.Access.TheVariants.{Write}
use Rattle.guest_mem.proofs.Permitted.{permitted_at, all_permitted_from}
use Rattle.syscall_layer.proofs.Received.{filled_all}

-- the front of a range
pub front_permitted : (access : Access) (areas : List Area) (a n k : ℕ) → k ≤ n → is_range_permitted access areas a n ≡ true → is_range_permitted access areas a k ≡ true
unfolding is_range_permitted
front_permitted access areas a n k le h =
    let parts = and_parts (nat_le (a + n) (2 ^ 32)) (all_permitted access areas a n) h in
    let end : a + n ≤ 2 ^ 32 = leb-true (a + n) (2 ^ 32) parts.0 in
    and_from (nat_le (a + k) (2 ^ 32)) (all_permitted access areas a k) (grind (arith, nat_tests, end, le)) (all_permitted_from access areas a k (λ i lt. permitted_at access areas a n i parts.1 (omega arith)))

-- what fills ranges that may be written may be written
pub filled_writable : (areas : List Area) (into : List Range) (ws : List Stored) (bytes : List ℕ) → list_all (λ r. is_range_permitted Write areas r.at r.size) into ≡ true → ws ≡ filled into bytes
    → list_all (λ s. is_range_permitted Write areas s.at (length s.bytes)) ws ≡ true
filled_writable areas into ws bytes writable is =
    ap (λ (qs : List Stored). list_all (λ (s : Stored). is_range_permitted Write areas s.at (length s.bytes)) qs) is ∙ filled_all (λ a n. is_range_permitted Write areas a n) (λ a n k le h. front_permitted Write areas a n k le h) into bytes writable
