-- The sets take their seats in the line anew.
use Rattle.std.proofs.Common.{◌≡◌, ℕ, zero, suc, ◌+◌, ◌<◌, ◌≤◌, ◌⊎◌, inl, inr, true, false, List, [], ◌∷◌, length, slice_get, Some, refl, sym, ap, ◌∙◌, arith}
use Rattle.std.specs.Map.{values_of}
use Rattle.indexmap.specs.IndexMap.{set_value_at}
use Rattle.sms_join.specs.declared.key.Key.{Key}
use Rattle.sms_join.specs.declared.line.Opening.{Opening}
use Rattle.sms_join.specs.OpenSets.{SetValue}
use Rattle.sms_join.specs.Inside.Slots.{SlotValue, AreSlots, set_of, sets_of}
use Rattle.sms_join.specs.Inside.Lines.{Climbs, IsNoted, lies, InLine, AreSeated}
use Rattle.sms_join.proofs.InLine.{opening, got_within, after_got}
use Rattle.sms_join.proofs.Passing.{none_lies, one_lies}
use Rattle.sms_join.proofs.Seats.{got_put, sets_same}
use Rattle.sms_join.proofs.Slots.{sets_some, slots_stay}

some_same : {X : Type 0} (x y : X) → Some x ≡ Some y → x ≡ y
some_same x y e = cc

-- each set whose opening stands ahead of this place has its seat
abbrev pub AreSeatedTo : ℕ → List Opening → List (Key × SlotValue) → Type 0
AreSeatedTo n os es = (i : ℕ) (e : Key × SlotValue) → slice_get es i ≡ Some e → (q : ℕ) → q < n → slice_get os q ≡ Some (record { turn = e.1.turn; index = i }) → e.1.seat ≡ q

before_or_at : (q n : ℕ) → q < n + 1 → (q < n) ⊎ (n ≡ q)
before_or_at zero zero l = inr refl
before_or_at zero (suc n) l = inl (omega arith)
before_or_at (suc q) zero l = absurd (omega arith)
before_or_at (suc q) (suc n) l = elim (before_or_at q n (omega arith)) [
  | inl h ↦ inl (omega arith)
  | inr h ↦ inr (ap suc h)
]

one_place : (os : List Opening) (p q : ℕ) (a b : Opening) → Climbs os → slice_get os p ≡ Some a → slice_get os q ≡ Some b → a.turn ≡ b.turn → p ≡ q
one_place [] p q a b h e f t = absurd cc
one_place (x ∷ os) zero zero a b h e f t = refl
one_place (x ∷ os) zero (suc q) a b h e f t =
    let own : x.turn ≡ a.turn = ap (λ (o : Opening). o.turn) (some_same x a e) in
    let less = after_got x.turn os q b h.0 f in
    absurd (omega arith)
one_place (x ∷ os) (suc p) zero a b h e f t =
    let own : x.turn ≡ b.turn = ap (λ (o : Opening). o.turn) (some_same x b f) in
    let less = after_got x.turn os p a h.0 e in
    absurd (omega arith)
one_place (x ∷ os) (suc p) (suc q) a b h e f t = ap suc (one_place os p q a b h.1 e f t)

pub seat_passed : (n : ℕ) (os : List Opening) (es : List (Key × SlotValue)) (o : Opening) → slice_get os n ≡ Some o → lies (sets_of es) o ≡ false → AreSeatedTo n os es → AreSeatedTo (n + 1) os es
seat_passed n os es o there gone h i e at q l is = elim (before_or_at q n l) [
  | inl b ↦ h i e at q b is
  | inr b ↦ absurd (none_lies (sets_of es) o gone i (set_of e) (sets_some es i e at) (some_same o (record { turn = e.1.turn; index = i }) (sym there ∙ (ap (slice_get os) b ∙ is))))
]

pub seat_taken : (n : ℕ) (os : List Opening) (es : List (Key × SlotValue)) (o : Opening) (v w : SlotValue) → Climbs os → slice_get os n ≡ Some o → slice_get (values_of es) o.index ≡ Some v
    → v.turn ≡ o.turn → w.turn ≡ v.turn → w.seat ≡ n → AreSeatedTo n os es → AreSeatedTo (n + 1) os (set_value_at es o.index w)
seat_taken n os es o v w c there is turn kept seat h i e at q l stands = elim (got_put es o.index i v w e is at) [
  | inl p ↦
      let t : o.turn ≡ e.1.turn = sym turn ∙ (sym kept ∙ ap (λ (x : SlotValue). x.turn) (sym p.1)) in
      ap (λ (x : SlotValue). x.seat) p.1 ∙ (seat ∙ one_place os n q o (record { turn = e.1.turn; index = i }) c there stands t)
  | inr p ↦ elim (before_or_at q n l) [
    | inl b ↦ h i e p.1 q b stands
    | inr b ↦ absurd (p.0 (ap (λ (x : Opening). x.index) (some_same o (record { turn = e.1.turn; index = i }) (sym there ∙ (ap (slice_get os) b ∙ stands)))))
  ]
]

-- how far the seats have been taken
abbrev pub Seating : ℕ → List Opening → (gs es : List (Key × SlotValue)) → Type 0
Seating n os gs es = (sets_of es ≡ sets_of gs) × (AreSlots gs → AreSlots es) × (Climbs os → AreSeatedTo n os es)

pub seating_passed : (n : ℕ) (os : List Opening) (gs es : List (Key × SlotValue)) (o : Opening) → slice_get os n ≡ Some o → lies (sets_of es) o ≡ false → Seating n os gs es → Seating (n + 1) os gs es
seating_passed n os gs es o there gone h = (h.0, h.1, (λ c. seat_passed n os es o there gone (h.2 c)))

turn_at : (es : List (Key × SlotValue)) (i : ℕ) (v : SlotValue) (s : SetValue) → slice_get (values_of es) i ≡ Some v → slice_get (sets_of es) i ≡ Some s → s.turn ≡ v.turn
turn_at [] i v s is at = absurd cc
turn_at (e ∷ es) zero v s is at = ap (λ (x : SetValue). x.turn) (sym (some_same (set_of e) s at)) ∙ ap (λ (x : SlotValue). x.turn) (some_same e.1 v is)
turn_at (e ∷ es) (suc i) v s is at = turn_at es i v s is at

pub seating_taken : (n : ℕ) (os : List Opening) (gs es : List (Key × SlotValue)) (o : Opening) (v w : SlotValue) → slice_get os n ≡ Some o → slice_get (values_of es) o.index ≡ Some v
    → lies (sets_of es) o ≡ true → w ≡ record v { seat = n } → Seating n os gs es → Seating (n + 1) os gs (set_value_at es o.index w)
seating_taken n os gs es o v w there is lie taken h =
    let l = one_lies (sets_of es) o lie in (
      sets_same es o.index v w is (λ k. ap (λ (x : SlotValue). set_of (k, x)) taken) ∙ h.0,
      (λ slots. slots_stay es o.index v w (h.1 slots) is (ap (λ (x : SlotValue). length x.places) taken)),
      (λ c. seat_taken n os es o v w c there is (sym (turn_at es o.index v l.own is l.there) ∙ l.turn) (ap (λ (x : SlotValue). x.turn) taken) (ap (λ (x : SlotValue). x.seat) taken) (h.2 c)),
    )

noted_place : (os : List Opening) (o : Opening) → IsNoted o os → (q : ℕ) × (slice_get os q ≡ Some o)
noted_place [] o m = absurd m
noted_place (x ∷ os) o (inl e) = (0, ap (λ (p : Opening). Some p) e)
noted_place (x ∷ os) o (inr m) = let h = noted_place os o m in (suc h.0, h.1)

pub seats_taken : (t n : ℕ) (os : List Opening) (es : List (Key × SlotValue)) → length os ≤ n → InLine t os (sets_of es) → AreSeatedTo n os es → AreSeated 0 os es
seats_taken t n os es l line h i e at =
    let m = noted_place os (opening (set_of e) i) (line.each i (set_of e) (sets_some es i e at) tt) in
    let within = got_within os m.0 (opening (set_of e) i) m.1 in
    let seat : e.1.seat ≡ m.0 = h i e at m.0 (omega arith) m.1 in
    (omega arith, ap (slice_get os) (omega (arith, seat)) ∙ m.1)
