-- Writes that are stored one after the other.
use Rattle.std.proofs.Common.{◌≡◌, ℕ, ◌+◌, ◌<◌, List, [], ◌∷◌, ◌++◌, length, get_or, map, take, drop, sym, ap, subst, ◌∙◌}
use Rattle.std.proofs.lemmas.List.{map-append, take_more, take-append-drop}
use Rattle.std.proofs.lemmas.List.Sums.{fold_more}
use Rattle.call_record.specs.Record.{Stored}
use Rattle.guest_model.specs.Bytes.{Bytes, put_bytes}
use Rattle.guest_model.specs.Call.{store_all}
use Rattle.guest_model.specs.Range.{Range, range}
use Rattle.guest_mem.specs.Frames.{Frames, HasAllFrames, TakesFrames}
use Rattle.guest_mem.proofs.Ranges.{has_first, has_rest, takes_more}
use Rattle.call_playback.specs.Stores.{range_of}

-- what the writes up to write k and with it store
pub stored_more : (m : Bytes) (ws : List Stored) (k : ℕ) (w : Stored) → k < length ws → get_or ws k w ≡ w → store_all m (take (k + 1) ws) ≡ put_bytes (store_all m (take k ws)) w.at w.bytes
stored_more m ws k w lt is =
    fold_more (λ (bytes : Bytes) (s : Stored). put_bytes bytes s.at s.bytes) m ws k w lt ∙ ap (λ (s : Stored). put_bytes (store_all m (take k ws)) s.at s.bytes) is

taken_next : (ws : List Stored) (k : ℕ) (w : Stored) → k < length ws → get_or ws k w ≡ w → map range_of (take (k + 1) ws) ≡ map range_of (take k ws) ++ range w.at (length w.bytes) ∷ []
taken_next ws k w lt is =
    ap (map range_of) (take_more ws k w lt ∙ ap (λ (s : Stored). take k ws ++ s ∷ []) is) ∙ map-append range_of (take k ws) (w ∷ [])

split_at : (ws : List Stored) (k : ℕ) (w : Stored) → k < length ws → get_or ws k w ≡ w
    → map range_of ws ≡ (map range_of (take k ws) ++ range w.at (length w.bytes) ∷ []) ++ map range_of (drop (k + 1) ws)
split_at ws k w lt is =
    ap (map range_of) (sym (take-append-drop (k + 1) ws)) ∙ map-append range_of (take (k + 1) ws) (drop (k + 1) ws)
    ∙ ap (λ (rs : List Range). rs ++ map range_of (drop (k + 1) ws)) (taken_next ws k w lt is)

-- the frames of the next write, where the others suffice for all
pub has_next : (old now : Frames) (ws : List Stored) (k : ℕ) (w : Stored) → k < length ws → get_or ws k w ≡ w → TakesFrames old now (map range_of (take k ws)) → HasAllFrames old (map range_of ws)
    → HasAllFrames now (range w.at (length w.bytes) ∷ [])
has_next old now ws k w lt is takes has =
    let whole : HasAllFrames old ((map range_of (take k ws) ++ range w.at (length w.bytes) ∷ []) ++ map range_of (drop (k + 1) ws)) = subst (HasAllFrames old) (split_at ws k w lt is) has in
    has_rest old now (map range_of (take k ws)) (range w.at (length w.bytes) ∷ []) takes (has_first old _ _ whole)

pub takes_next : (old now new : Frames) (ws : List Stored) (k : ℕ) (w : Stored) → k < length ws → get_or ws k w ≡ w → TakesFrames old now (map range_of (take k ws))
    → TakesFrames now new (range w.at (length w.bytes) ∷ []) → TakesFrames old new (map range_of (take (k + 1) ws))
takes_next old now new ws k w lt is takes here =
    subst (TakesFrames old new) (sym (taken_next ws k w lt is)) (takes_more old now new (map range_of (take k ws)) (range w.at (length w.bytes) ∷ []) takes here)
