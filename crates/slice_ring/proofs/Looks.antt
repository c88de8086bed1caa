-- What a worker's view keeps of its looks at a slot.
use Rattle.std.proofs.Common.{◌≡◌, ◌≢◌, inl, inr, ℕ, ◌+◌, ◌*◌, ◌%◌, ◌<◌, ◌≤◌, length, sym, refl, ap, ◌∙◌, subst, arith, length-set, get_or-set_other, get_or-set_same}
use Rattle.std.specs.Prelude.{Some, None}
use Rattle.slice_ring.specs.declared.views.Look.{Look}
use Rattle.slice_ring.specs.declared.views.View.{View}
use Rattle.slice_ring.specs.Ticket.{Ticket}
use Rattle.slice_ring.specs.Seats.{WasReady, WasMissed}
use Rattle.slice_ring.specs.Steps.{no_look, look_at, relooked, sees_word, sees_first, sees_second, loses, takes_job}

module _ {T : Type 0} where
  -- looks at the slot i alone
  pub record At (i : ℕ) (v w : View T) : Type 0 where
    pub role : w.role ≡ v.role
    pub topic : w.topic ≡ v.topic
    pub held : w.work.held ≡ v.work.held
    pub kept : length w.work.kept ≡ length v.work.kept
    pub looks : v.looks < w.looks
    pub others : (j : ℕ) → j ≢ i → look_at j w ≡ look_at j v

  pub looked : (i : ℕ) (look : Look) (v w : View T) → w ≡ relooked i look v → At i v w
  looked i look v w is = subst (At i v) (sym is) record {
    role = refl;
    topic = refl;
    held = refl;
    kept = length-set v.work.kept i look;
    looks = omega arith;
    others = λ j other. get_or-set_other v.work.kept i j look no_look (λ e. other e);
  }

  pub looked_at : (i : ℕ) (look : Look) (v w : View T) → i < length v.work.kept → w ≡ relooked i look v → look_at i w ≡ look
  looked_at i look v w near is = ap (look_at i) is ∙ get_or-set_same v.work.kept i look no_look near

  then_at : (i : ℕ) (u v w : View T) → At i u v → At i v w → At i u w
  then_at i u v w a b = let x : ℕ = u.looks in let y : ℕ = v.looks in let z : ℕ = w.looks in let l : x < y = a.looks in let m : y < z = b.looks in record {
    role = b.role ∙ a.role;
    topic = b.topic ∙ a.topic;
    held = b.held ∙ a.held;
    kept = b.kept ∙ a.kept;
    looks = (let g : x < z = omega arith in g);
    others = λ j other. b.others j other ∙ a.others j other;
  }

  -- what is known once the three words of a slot were loaded
  abbrev pub Loaded : ℕ → ℕ → ℕ → ℕ → View T → View T → Type 0
  Loaded i r a b u x = At i u x × (look_at i x ≡ record { word = r; look = u.looks + 1; first = Some a; second = Some b; lost = None })

  pub loaded : (i r a b : ℕ) (u v w x : View T) → i < length u.work.kept → v ≡ sees_word i r u → w ≡ sees_first i a v → x ≡ sees_second i b w → Loaded i r a b u x
  loaded i r a b u v w x near e f h =
      let l : Look = record { word = r; look = u.looks + 1; first = None; second = None; lost = None } in
      let one = looked_at i l u v near e in let av = looked i l u v e in
      let l2 : Look = record (look_at i v) { first = Some a } in
      let aw = looked i l2 v w f in let two = looked_at i l2 v w (subst (λ (z : ℕ). i < z) (sym av.kept) near) f in
      let l3 : Look = record (look_at i w) { second = Some b } in
      let ax = looked i l3 w x h in let three = looked_at i l3 w x (subst (λ (z : ℕ). i < z) (sym (aw.kept ∙ av.kept)) near) h in
      let two' : look_at i w ≡ record { word = r; look = u.looks + 1; first = Some a; second = None; lost = None } = two ∙ ap (λ (y : Look). record y { first = Some a }) one in
      (then_at i u w x (then_at i u v w av aw) ax, three ∙ ap (λ (y : Look). record y { second = Some b }) two')
