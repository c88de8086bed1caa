-- Bytes of memory that are sent in parts.
use Rattle.std.proofs.Common.{subst, length-append, refl, ◌-◌, ◌≡◌, ◌≢◌, ℕ, zero, suc, ◌+◌, ◌≤◌, List, [], ◌∷◌, ◌++◌, length, take, sym, ap, ◌∙◌, arith, append_assoc, add-zero}
use Rattle.std.specs.Prelude.{Option, Some}
use Rattle.std.proofs.lemmas.Grind.{flat_map-append}
use Rattle.std.proofs.lemmas.List.FromFn.{length-map-range_with_len, map-range_with_len_more}
use Rattle.std.proofs.lemmas.List.{append-nil, take-append-le}
use Rattle.std.proofs.Math.Seq.{take-append-add}
use Rattle.sp_host.specs.Told.{Told, appended, sent, PartSent}
use Rattle.sp_host.specs.declared.host.Port.{Port}
use Rattle.sp_host.specs.declared.host.Port.TheVariants.{Out, Err, Report}
use Rattle.sp_host.proofs.Told.{appended-more, sent_more}
use Rattle.guest_model.specs.Areas.{wrap}
use Rattle.guest_model.specs.Bytes.{Bytes, byte_at, bytes_at}
use Rattle.guest_model.specs.Call.{World, Sent}
use Rattle.guest_model.specs.Serial.{bytes_to, to_port}
use Rattle.syscall_layer.specs.Serve.{port_number, told_after}

pub length_bytes : (m : Bytes) (a n : ℕ) → length (bytes_at m a n) ≡ n
length_bytes m a n = length-map-range_with_len (λ i. byte_at m (wrap (a + i))) 0 n

bytes_more : (m : Bytes) (a n : ℕ) → bytes_at m a (n + 1) ≡ bytes_at m a n ++ byte_at m (wrap (a + n)) ∷ []
bytes_more m a n = map-range_with_len_more (λ i. byte_at m (wrap (a + i))) 0 n n (omega arith)

-- bytes in two parts
pub bytes_split : (m : Bytes) (a n k : ℕ) → bytes_at m a (n + k) ≡ bytes_at m a n ++ bytes_at m (a + n) k
bytes_split m a n zero = ap (bytes_at m a) (add-zero n) ∙ sym (append-nil (bytes_at m a n))
bytes_split m a n (suc k) =
    let step : n + suc k ≡ n + k + 1 = omega arith in
    let last : a + (n + k) ≡ a + n + k = omega arith in
    let more : suc k ≡ k + 1 = omega arith in
    ap (bytes_at m a) step
    ∙ bytes_more m a (n + k)
    ∙ ap (λ (xs : List ℕ). xs ++ byte_at m (wrap (a + (n + k))) ∷ []) (bytes_split m a n k)
    ∙ append_assoc (bytes_at m a n) (bytes_at m (a + n) k) (byte_at m (wrap (a + (n + k))) ∷ [])
    ∙ ap (λ (i : ℕ). bytes_at m a n ++ (bytes_at m (a + n) k ++ byte_at m (wrap i) ∷ [])) last
    ∙ ap (λ (xs : List ℕ). bytes_at m a n ++ xs) (sym (bytes_more m (a + n) k))
    ∙ ap (λ (i : ℕ). bytes_at m a n ++ bytes_at m (a + n) i) (sym more)

-- a part behind the part that was sent
pub sent_bytes : (p : Port) (m : Bytes) (a n k : ℕ) (t : Told) → sent p (bytes_at m (a + n) k) (sent p (bytes_at m a n) t) ≡ sent p (bytes_at m a (n + k)) t
sent_bytes p m a n k t = sent_more p (bytes_at m a n) (bytes_at m (a + n) k) t ∙ ap (λ (xs : List ℕ). sent p xs t) (sym (bytes_split m a n k))

-- a beginning of the middle part, behind the part that was sent
pub part_between : (p : Port) (first middle last : List ℕ) (old new : Told) → PartSent p middle (sent p first old) new → PartSent p (first ++ (middle ++ last)) old new
part_between p first middle last old new part =
    let here : take (length first + part.count) (first ++ (middle ++ last)) ≡ first ++ take part.count middle =
    take-append-add first (middle ++ last) part.count ∙ ap (λ (xs : List ℕ). first ++ xs) (take-append-le part.count middle last (omega (arith, part.proper))) in
    record {
      count = length first + part.count;
      proper = omega (arith, part.proper, length-append first (middle ++ last), length-append middle last);
      sends = part.sends ∙ (sent_more p first (take part.count middle) old ∙ ap (λ (xs : List ℕ). sent p xs old) (sym here));
    }

-- the same of memory
pub part_behind : (p : Port) (m : Bytes) (a n k len : ℕ) (old new : Told) → n + k ≤ len → PartSent p (bytes_at m (a + n) k) (sent p (bytes_at m a n) old) new → PartSent p (bytes_at m a len) old new
part_behind p m a n k len old new fits part =
    let rest = len - (n + k) in
    let all : n + (k + rest) ≡ len = omega arith in
    let whole : bytes_at m a n ++ (bytes_at m (a + n) k ++ bytes_at m (a + n + k) rest) ≡ bytes_at m a len =
    ap (λ (xs : List ℕ). bytes_at m a n ++ xs) (sym (bytes_split m (a + n) k rest)) ∙ (sym (bytes_split m a n (k + rest)) ∙ ap (bytes_at m a) all) in
    subst (λ (xs : List ℕ). PartSent p xs old new) whole (part_between p (bytes_at m a n) (bytes_at m (a + n) k) (bytes_at m (a + n + k) rest) old new part)

to_more : (port : ℕ) (before : List Sent) (m : Sent) → bytes_to port (before ++ m ∷ []) ≡ bytes_to port before ++ to_port port m
to_more port before m = flat_map-append (to_port port) before (m ∷ []) ∙ ap (λ (xs : List ℕ). bytes_to port before ++ xs) (append-nil (to_port port m))

-- what is told after bytes went to a port, and the outputs that they did not go to
told_more : (t : Told) (w : World) (before : List Sent) (m : Sent) → told_after t w (before ++ m ∷ [])
    ≡ record t { input = Some w.input; moments = Some w.moments; out = appended (appended t.out (bytes_to 1 before)) (to_port 1 m); err = appended (appended t.err (bytes_to 2 before)) (to_port 2 m) }
told_more t w before m =
    ap (λ (o : Option (List ℕ)). record t { input = Some w.input; moments = Some w.moments; out = o; err = appended t.err (bytes_to 2 (before ++ m ∷ [])) })
    (ap (appended t.out) (to_more 1 before m) ∙ sym (appended-more t.out (bytes_to 1 before) (to_port 1 m)))
    ∙ ap (λ (o : Option (List ℕ)). record t { input = Some w.input; moments = Some w.moments; out = appended (appended t.out (bytes_to 1 before)) (to_port 1 m); err = o })
    (ap (appended t.err) (to_more 2 before m) ∙ sym (appended-more t.err (bytes_to 2 before) (to_port 2 m)))

appended_none : (o : Option (List ℕ)) (xs : List ℕ) → appended (appended o xs) [] ≡ appended o xs
appended_none o xs = appended-more o xs [] ∙ ap (appended o) (append-nil xs)

-- what is told after a guest sent bytes
pub told_sent : (port : Port) (number : ℕ) (bytes : List ℕ) (t : Told) (w : World) (before : List Sent) → port_number port ≡ number → port ≢ Report
    → sent port bytes (told_after t w before) ≡ told_after t w (before ++ record { port = number; bytes = bytes } ∷ [])
told_sent Out number bytes t w before names guests =
    subst (λ (n : ℕ). sent Out bytes (told_after t w before) ≡ told_after t w (before ++ record { port = n; bytes = bytes } ∷ [])) names
    (sym (told_more t w before (record { port = 1; bytes = bytes })
    ∙ ap (λ (o : Option (List ℕ)). record t { input = Some w.input; moments = Some w.moments; out = appended (appended t.out (bytes_to 1 before)) bytes; err = o }) (appended_none t.err (bytes_to 2 before))))
told_sent Err number bytes t w before names guests =
    subst (λ (n : ℕ). sent Err bytes (told_after t w before) ≡ told_after t w (before ++ record { port = n; bytes = bytes } ∷ [])) names
    (sym (told_more t w before (record { port = 2; bytes = bytes })
    ∙ ap (λ (o : Option (List ℕ)). record t { input = Some w.input; moments = Some w.moments; out = o; err = appended (appended t.err (bytes_to 2 before)) bytes }) (appended_none t.out (bytes_to 1 before))))
told_sent Report number bytes t w before names guests = absurd (guests refl)
