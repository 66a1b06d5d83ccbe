-- What is noted of accepted submissions tells whether one of another segment has not ended.
use Rattle.std.proofs.Common.{◌≡◌, ℕ, zero, suc, ◌<◌, ◌≤◌, max, Bool, true, false, cond, not, ◌&&◌, ◌||◌, eqb, ltb, leb, List, [], ◌∷◌, Option, Some, None, refl, sym, ap, ◌∙◌, subst, arith, Contains}
use Rattle.std.specs.List.{AllByRecursion}
use Rattle.std.specs.Option.{option_map}
use Rattle.std.proofs.lemmas.Bool.{and_parts, or_parts, or_left, or_right, eqb-true, eq-eqb, ltb-true, ltb-false, leb-true, leb-false, lt-ltb, le-ltb}
use Rattle.sms_centre.specs.Centre.State.{Acceptance}
use Rattle.sms_world.specs.declared.notes.mark.Part.{Part}
use Rattle.sms_world.specs.Traces.{HeldNote, part_of, same_part, adds, held_of, is_other_held}
use Rattle.sms_world.proofs.Entries.{contains_here, contains_more}

-- ---- segments

pub same_part_is : (p q : Option Part) → same_part p q ≡ true → p ≡ q
same_part_is None None e = refl
same_part_is None (Some q) e = cc
same_part_is (Some p) None e = cc
same_part_is (Some p) (Some q) e =
    let r = and_parts (eqb p.text q.text) (eqb p.segment q.segment) e in
    let x : p.text ≡ q.text = eqb-true _ _ r.0 in
    let y : p.segment ≡ q.segment = eqb-true _ _ r.1 in
    λ i. Some (record { text = x i; segment = y i })

pub same_part_own : (p q : Option Part) → p ≡ q → same_part p q ≡ true
same_part_own p q e = subst (λ v. same_part p v ≡ true) e (own p)
  where
    own : (v : Option Part) → same_part v v ≡ true
    own None = refl
    own (Some v) = rw (eq-eqb v.text v.text refl, eq-eqb v.segment v.segment refl) refl

-- ---- tests of moments

-- the later of two
later : (now a b : ℕ) → ltb now (max a b) ≡ (ltb now b || ltb now a)
later now a b = go (ltb now b) refl (ltb now a) refl (ltb now (max a b)) refl
  where
    go : (x : Bool) → ltb now b ≡ x → (y : Bool) → ltb now a ≡ y → (z : Bool) → ltb now (max a b) ≡ z → z ≡ (x || y)
    go true e y f true g = refl
    go true e y f false g = let p = ltb-true _ _ e in let q = ltb-false _ _ g in absurd (omega (arith, p, q))
    go false e true f true g = refl
    go false e true f false g = let p = ltb-true _ _ f in let q = ltb-false _ _ g in absurd (omega (arith, p, q))
    go false e false f true g = let p = ltb-false _ _ e in let r = ltb-false _ _ f in let q = ltb-true _ _ g in absurd (omega (arith, p, q, r))
    go false e false f false g = refl

-- one that ends earlier tells nothing more
earlier : (now a b : ℕ) (x : Bool) → a ≤ b → ltb now b ≡ ((x && ltb now a) || ltb now b)
earlier now a b false l = refl
earlier now a b true l = go (ltb now a) refl (ltb now b) refl
  where
    go : (y : Bool) → ltb now a ≡ y → (z : Bool) → ltb now b ≡ z → z ≡ (y || z)
    go false e z f = refl
    go true e true f = refl
    go true e false f = let p = ltb-true _ _ e in let q = ltb-false _ _ f in absurd (omega (arith, p, q, l))

covered : (now a b : ℕ) → b ≤ a → ltb now a ≡ (ltb now a || ltb now b)
covered now a b l = go (ltb now a) refl (ltb now b) refl
  where
    go : (y : Bool) → ltb now a ≡ y → (z : Bool) → ltb now b ≡ z → y ≡ (y || z)
    go true e z f = refl
    go false e false f = refl
    go false e true f = let p = ltb-false _ _ e in let q = ltb-true _ _ f in absurd (omega (arith, p, q, l))

-- ---- one more is accepted

abbrev Bounded : Option HeldNote → Type 0
Bounded None = Unit {0}
Bounded (Some h) = h.other ≤ h.end

adds_bounded : (held : Option HeldNote) (part : Option Part) (end : ℕ) → Bounded held → Bounded (Some (adds held part end))
adds_bounded None part end b = omega arith
adds_bounded (Some h) part end b = go (same_part h.last part) (leb h.end end) refl
  where
    go : (x y : Bool) → leb h.end end ≡ y
        → Bounded (Some (cond x (record { last = h.last; end = max h.end end; other = h.other })
        (cond y (record { last = part; end = end; other = h.end }) (record { last = h.last; end = h.end; other = max h.other end }))))
    go true y e = omega (arith, b)
    go false true e = leb-true h.end end e
    go false false e = let l = leb-false h.end end e in omega (arith, b, l)

abbrev tells_more : Option HeldNote → Option Part → ℕ → Option Part → ℕ → Bool
tells_more held part end other now = (not (same_part part other) && ltb now end) || is_other_held held other now

pub adds_tell : (held : Option HeldNote) (part : Option Part) (end : ℕ) (other : Option Part) (now : ℕ) → Bounded held
    → is_other_held (Some (adds held part end)) other now ≡ tells_more held part end other now
adds_tell None part end other now b = go (same_part part other)
  where
    go : (x : Bool) → cond x (ltb now 0) (ltb now end) ≡ ((not x && ltb now end) || false)
    go true = le-ltb now 0 (omega arith)
    go false = or_none (ltb now end)
      where
        or_none : (x : Bool) → x ≡ (x || false)
        or_none true = refl
        or_none false = refl
adds_tell (Some h) part end other now b = which (same_part h.last part) refl
  where
    which : (x : Bool) → same_part h.last part ≡ x
        → is_other_held (Some (cond x (record { last = h.last; end = max h.end end; other = h.other })
        (cond (leb h.end end) (record { last = part; end = end; other = h.end }) (record { last = h.last; end = h.end; other = max h.other end })))) other now
        ≡ ((not (same_part part other) && ltb now end) || cond (same_part h.last other) (ltb now h.other) (ltb now h.end))
    which true e = subst (λ (p : Option Part). cond (same_part h.last other) (ltb now h.other) (ltb now (max h.end end))
        ≡ ((not (same_part p other) && ltb now end) || cond (same_part h.last other) (ltb now h.other) (ltb now h.end))) (same_part_is h.last part e)
        (go (same_part h.last other))
      where
        go : (x : Bool) → cond x (ltb now h.other) (ltb now (max h.end end)) ≡ ((not x && ltb now end) || cond x (ltb now h.other) (ltb now h.end))
        go true = refl
        go false = later now h.end end
    which false e = go (leb h.end end) refl
      where
        -- the two are not both the same as the other
        apart : same_part part other ≡ true → same_part h.last other ≡ false
        apart f = by (same_part h.last other) refl
          where
            by : (x : Bool) → same_part h.last other ≡ x → x ≡ false
            by false g = refl
            by true g =
                let same : h.last ≡ part = same_part_is h.last other g ∙ sym (same_part_is part other f) in
                let q : true ≡ false = sym (same_part_own h.last part same) ∙ e in cc

        ends_first : h.end ≤ end → cond (same_part part other) (ltb now h.end) (ltb now end)
            ≡ ((not (same_part part other) && ltb now end) || cond (same_part h.last other) (ltb now h.other) (ltb now h.end))
        ends_first l = by (same_part part other) refl
          where
            by : (x : Bool) → same_part part other ≡ x → cond x (ltb now h.end) (ltb now end)
                ≡ ((not x && ltb now end) || cond (same_part h.last other) (ltb now h.other) (ltb now h.end))
            by true f = subst (λ y. ltb now h.end ≡ cond y (ltb now h.other) (ltb now h.end)) (sym (apart f)) refl
            by false f = which_last (same_part h.last other)
              where
                which_last : (y : Bool) → ltb now end ≡ (ltb now end || cond y (ltb now h.other) (ltb now h.end))
                which_last true = covered now end h.other (omega (arith, b, l))
                which_last false = covered now end h.end l

        ends_last : end < h.end → cond (same_part h.last other) (ltb now (max h.other end)) (ltb now h.end)
            ≡ ((not (same_part part other) && ltb now end) || cond (same_part h.last other) (ltb now h.other) (ltb now h.end))
        ends_last l = by (same_part h.last other) refl
          where
            not_this : same_part h.last other ≡ true → same_part part other ≡ false
            not_this f = two (same_part part other) refl
              where
                two : (x : Bool) → same_part part other ≡ x → x ≡ false
                two false g = refl
                two true g = let q : true ≡ false = sym f ∙ apart g in cc

            by : (x : Bool) → same_part h.last other ≡ x → cond x (ltb now (max h.other end)) (ltb now h.end)
                ≡ ((not (same_part part other) && ltb now end) || cond x (ltb now h.other) (ltb now h.end))
            by true f = subst (λ y. ltb now (max h.other end) ≡ ((not y && ltb now end) || ltb now h.other)) (sym (not_this f)) (later now h.other end)
            by false f = earlier now end h.end (not (same_part part other)) (omega (arith, l))

        go : (y : Bool) → leb h.end end ≡ y
            → is_other_held (Some (cond y (record { last = part; end = end; other = h.end }) (record { last = h.last; end = h.end; other = max h.other end }))) other now
            ≡ ((not (same_part part other) && ltb now end) || cond (same_part h.last other) (ltb now h.other) (ltb now h.end))
        go true f = ends_first (leb-true h.end end f)
        go false f = ends_last (leb-false h.end end f)

-- ---- all of them

abbrev has_key : Acceptance → ℕ → ℕ → ℕ → Bool
has_key a phone reference recipient = eqb a.phone phone && (eqb a.submission.reference reference && eqb a.recipient recipient)

abbrev has_other : List Acceptance → ℕ → ℕ → ℕ → Option Part → ℕ → Bool
has_other [] phone reference recipient part now = false
has_other (a ∷ past) phone reference recipient part now =
    (has_key a phone reference recipient && (not (same_part (option_map part_of a.origin) part) && ltb now a.ends)) || has_other past phone reference recipient part now

held_bounded : (past : List Acceptance) (phone reference recipient : ℕ) → Bounded (held_of past phone reference recipient)
held_bounded [] phone reference recipient = tt
held_bounded (a ∷ past) phone reference recipient = go (has_key a phone reference recipient) (held_bounded past phone reference recipient)
  where
    go : (b : Bool) → Bounded (held_of past phone reference recipient)
        → Bounded (cond b (Some (adds (held_of past phone reference recipient) (option_map part_of a.origin) a.ends)) (held_of past phone reference recipient))
    go true ih = adds_bounded (held_of past phone reference recipient) (option_map part_of a.origin) a.ends ih
    go false ih = ih

held_told : (past : List Acceptance) (phone reference recipient : ℕ) (part : Option Part) (now : ℕ)
    → is_other_held (held_of past phone reference recipient) part now ≡ has_other past phone reference recipient part now
held_told [] phone reference recipient part now = refl
held_told (a ∷ past) phone reference recipient part now = go (held_told past phone reference recipient part now) (has_key a phone reference recipient)
  where
    go : is_other_held (held_of past phone reference recipient) part now ≡ has_other past phone reference recipient part now → (b : Bool)
        → is_other_held (cond b (Some (adds (held_of past phone reference recipient) (option_map part_of a.origin) a.ends)) (held_of past phone reference recipient)) part now
        ≡ ((b && (not (same_part (option_map part_of a.origin) part) && ltb now a.ends)) || has_other past phone reference recipient part now)
    go ih true =
        adds_tell (held_of past phone reference recipient) (option_map part_of a.origin) a.ends part now (held_bounded past phone reference recipient)
        ∙ ap (λ x. (not (same_part (option_map part_of a.origin) part) && ltb now a.ends) || x) ih
    go ih false = ih

-- one of another segment that has not ended
pub record OtherHeld (past : List Acceptance) (phone reference recipient : ℕ) (part : Option Part) (now : ℕ) : Type 0 where
  pub a : Acceptance
  pub there : Contains past a
  pub phone_is : a.phone ≡ phone
  pub reference_is : a.submission.reference ≡ reference
  pub recipient_is : a.recipient ≡ recipient
  pub other : same_part (option_map part_of a.origin) part ≡ false
  pub lasts : now < a.ends

some_other : (past : List Acceptance) (phone reference recipient : ℕ) (part : Option Part) (now : ℕ)
    → has_other past phone reference recipient part now ≡ true → OtherHeld past phone reference recipient part now
some_other [] phone reference recipient part now e = cc
some_other (a ∷ past) phone reference recipient part now e =
    go (some_other past phone reference recipient part now) (has_key a phone reference recipient && (not (same_part (option_map part_of a.origin) part) && ltb now a.ends)) refl e
  where
    go : (has_other past phone reference recipient part now ≡ true → OtherHeld past phone reference recipient part now)
        → (b : Bool) → (has_key a phone reference recipient && (not (same_part (option_map part_of a.origin) part) && ltb now a.ends)) ≡ b
        → (b || has_other past phone reference recipient part now) ≡ true → OtherHeld (a ∷ past) phone reference recipient part now
    go ih true f g =
        let p = and_parts (has_key a phone reference recipient) (not (same_part (option_map part_of a.origin) part) && ltb now a.ends) f in
        let k = and_parts (eqb a.phone phone) (eqb a.submission.reference reference && eqb a.recipient recipient) p.0 in
        let r = and_parts (eqb a.submission.reference reference) (eqb a.recipient recipient) k.1 in
        let o = and_parts (not (same_part (option_map part_of a.origin) part)) (ltb now a.ends) p.1 in
        record {
          a = a;
          there = contains_here a past;
          phone_is = eqb-true _ _ k.0;
          reference_is = eqb-true _ _ r.0;
          recipient_is = eqb-true _ _ r.1;
          other = not_true (same_part (option_map part_of a.origin) part) o.0;
          lasts = ltb-true _ _ o.1;
        }
      where
        not_true : (b : Bool) → not b ≡ true → b ≡ false
        not_true false e = refl
        not_true true e = cc
    go ih false f g =
        let h = ih g in
        record { a = h.a; there = contains_more a past h.a h.there; phone_is = h.phone_is; reference_is = h.reference_is; recipient_is = h.recipient_is; other = h.other; lasts = h.lasts }

no_other : (past : List Acceptance) (phone reference recipient : ℕ) (part : Option Part) (now : ℕ)
    → has_other past phone reference recipient part now ≡ false
    → AllByRecursion (λ (a : Acceptance). a.phone ≡ phone → a.submission.reference ≡ reference → a.recipient ≡ recipient → now < a.ends → option_map part_of a.origin ≡ part) past
no_other [] phone reference recipient part now e = tt
no_other (a ∷ past) phone reference recipient part now e =
    let p = or_false (has_key a phone reference recipient && (not (same_part (option_map part_of a.origin) part) && ltb now a.ends)) (has_other past phone reference recipient part now) e in
    (λ x y z l. this p.0 x y z l, no_other past phone reference recipient part now p.1)
  where
    or_false : (x y : Bool) → (x || y) ≡ false → (x ≡ false) × (y ≡ false)
    or_false true y e = cc
    or_false false y e = (refl, e)

    this : (has_key a phone reference recipient && (not (same_part (option_map part_of a.origin) part) && ltb now a.ends)) ≡ false
        → a.phone ≡ phone → a.submission.reference ≡ reference → a.recipient ≡ recipient → now < a.ends → option_map part_of a.origin ≡ part
    this f x y z l = go (same_part (option_map part_of a.origin) part) refl
      where
        go : (b : Bool) → same_part (option_map part_of a.origin) part ≡ b → option_map part_of a.origin ≡ part
        go true g = same_part_is (option_map part_of a.origin) part g
        go false g =
            let t : ltb now a.ends ≡ true = lt-ltb now a.ends l in
            let all : (has_key a phone reference recipient && (not (same_part (option_map part_of a.origin) part) && ltb now a.ends)) ≡ true
            = rw (eq-eqb _ _ x, eq-eqb _ _ y, eq-eqb _ _ z, g, t) refl in
            let q : true ≡ false = sym all ∙ f in cc

module _ (past : List Acceptance) (phone reference recipient : ℕ) (part : Option Part) (now : ℕ) where
  pub other_held : is_other_held (held_of past phone reference recipient) part now ≡ true → OtherHeld past phone reference recipient part now
  other_held e = some_other past phone reference recipient part now (sym (held_told past phone reference recipient part now) ∙ e)

  pub none_held : is_other_held (held_of past phone reference recipient) part now ≡ false
      → AllByRecursion (λ (a : Acceptance). a.phone ≡ phone → a.submission.reference ≡ reference → a.recipient ≡ recipient → now < a.ends → option_map part_of a.origin ≡ part) past
  none_held e = no_other past phone reference recipient part now (sym (held_told past phone reference recipient part now) ∙ e)
