-- The order in which texts are completed.
use Rattle.std.proofs.Common.{◌≡◌, ℕ, zero, suc, ◌<◌, Bool, true, false, ◌||◌, eqb, List, [], ◌∷◌, ◌++◌, refl, sym, ap, ◌∙◌, subst, arith}
use Rattle.std.proofs.lemmas.Bool.{eqb-true, or_right, false_from_ne_true}
use Rattle.sms_join.specs.Arrivals.{Arrival, has_pieces, is_done, completed, is_listed}
use Rattle.sms_join.specs.Arrivals.Completion.{StandsBefore, CameEarlier, CompletedAreWhole, CompleteInOrder}
use Rattle.sms_join.proofs.Arrived.{is_done-other, listed_done}

pub completed_are_whole : CompletedAreWhole
completed_are_whole = listed_done

-- the three ways in which one arrival goes on
module _ (size : ℕ → ℕ) (a : Arrival) (past : List Arrival) where
  done_before : is_done size past a.text ≡ true → completed size (a ∷ past) ≡ completed size past
  done_before e = rw e refl

  done_now : is_done size past a.text ≡ false → is_done size (a ∷ past) a.text ≡ true → completed size (a ∷ past) ≡ a.text ∷ completed size past
  done_now e f = rw (e, f) refl

  done_later : is_done size past a.text ≡ false → is_done size (a ∷ past) a.text ≡ false → completed size (a ∷ past) ≡ completed size past
  done_later e f = rw (e, f) refl

  listed_more : (t : ℕ) → is_listed (completed size past) t ≡ true → is_listed (completed size (a ∷ past)) t ≡ true
  listed_more t h = go (is_done size past a.text) refl (is_done size (a ∷ past) a.text) refl
    where
      go : (b : Bool) → is_done size past a.text ≡ b → (c : Bool) → is_done size (a ∷ past) a.text ≡ c → is_listed (completed size (a ∷ past)) t ≡ true
      go true e c f = ap (λ l. is_listed l t) (done_before e) ∙ h
      go false e false f = ap (λ l. is_listed l t) (done_later e f) ∙ h
      go false e true f = ap (λ l. is_listed l t) (done_now e f) ∙ or_right (eqb a.text t) (is_listed (completed size past) t) h

-- a completed text has a piece
has_some : (size : ℕ → ℕ) (past : List Arrival) (t n : ℕ) → size t ≡ n → is_done size past t ≡ false → 0 < n
has_some size past t zero e f =
    let z : has_pieces past t 0 ≡ false = ap (has_pieces past t) (sym e) ∙ f in
    let q : true ≡ false = z in cc
has_some size past t (suc n) e f = omega arith

listed_some : (size : ℕ → ℕ) (past : List Arrival) (t : ℕ) → is_listed (completed size past) t ≡ true → 0 < size t
listed_some size [] t h = cc
listed_some size (a ∷ past) t h = go (is_done size past a.text) refl (is_done size (a ∷ past) a.text) refl (listed_some size past t)
  where
    go : (b : Bool) → is_done size past a.text ≡ b → (c : Bool) → is_done size (a ∷ past) a.text ≡ c
        → (is_listed (completed size past) t ≡ true → 0 < size t) → 0 < size t
    go true e c f ih = ih (ap (λ l. is_listed l t) (sym (done_before size a past e)) ∙ h)
    go false e false f ih = ih (ap (λ l. is_listed l t) (sym (done_later size a past e f)) ∙ h)
    go false e true f ih = which (eqb a.text t) refl (ap (λ l. is_listed l t) (sym (done_now size a past e f)) ∙ h)
      where
        which : (d : Bool) → eqb a.text t ≡ d → (d || is_listed (completed size past) t) ≡ true → 0 < size t
        which true g k = subst (λ u. 0 < size u) (eqb-true a.text t g) (has_some size past a.text (size a.text) refl e)
        which false g k = ih k

-- a text that is whole is listed
done_listed : (size : ℕ → ℕ) (past : List Arrival) (t : ℕ) → 0 < size t → is_done size past t ≡ true → is_listed (completed size past) t ≡ true
done_listed size [] t some h = none (size t) some h
  where
    none : (n : ℕ) → 0 < n → has_pieces [] t n ≡ true → is_listed [] t ≡ true
    none zero s k = absurd (omega arith)
    none (suc n) s k = k
done_listed size (a ∷ past) t some h = go (is_done size past t) refl (done_listed size past t some)
  where
    go : (b : Bool) → is_done size past t ≡ b → (is_done size past t ≡ true → is_listed (completed size past) t ≡ true)
        → is_listed (completed size (a ∷ past)) t ≡ true
    go true e ih = listed_more size a past t (ih e)
    go false e ih = which (eqb a.text t) refl
      where
        which : (d : Bool) → eqb a.text t ≡ d → is_listed (completed size (a ∷ past)) t ≡ true
        which true g =
            let same : a.text ≡ t = eqb-true a.text t g in
            let before : is_done size past a.text ≡ false = ap (is_done size past) same ∙ e in
            let now : is_done size (a ∷ past) a.text ≡ true = ap (is_done size (a ∷ past)) same ∙ h in
            ap (λ l. is_listed l t) (done_now size a past before now) ∙ rw g refl
        which false g = let z : is_done size (a ∷ past) t ≡ false = is_done-other size a past t g ∙ e in let q : true ≡ false = sym h ∙ z in cc

-- what is completed stays, and later completions stand before it in the list
stands : (size : ℕ → ℕ) (later earlier : List Arrival) (t u : ℕ) → is_listed (completed size earlier) t ≡ true → is_listed (completed size earlier) u ≡ false
    → is_listed (completed size (later ++ earlier)) u ≡ true
    → StandsBefore (completed size (later ++ earlier)) t u × (is_listed (completed size (later ++ earlier)) t ≡ true)
stands size [] earlier t u a b c = let q : true ≡ false = sym c ∙ b in cc
stands size (x ∷ later) earlier t u a b c =
    go (is_done size (later ++ earlier) x.text) refl (is_done size (x ∷ (later ++ earlier)) x.text) refl (stands size later earlier t u a b)
  where
    past : List Arrival
    past = later ++ earlier

    kept : (ls : List Arrival) → is_listed (completed size (ls ++ earlier)) t ≡ true
    kept [] = a
    kept (l ∷ ls) = listed_more size l (ls ++ earlier) t (kept ls)

    same : completed size (x ∷ past) ≡ completed size past
        → (is_listed (completed size past) u ≡ true → StandsBefore (completed size past) t u × (is_listed (completed size past) t ≡ true))
        → StandsBefore (completed size (x ∷ past)) t u × (is_listed (completed size (x ∷ past)) t ≡ true)
    same e ih = subst (λ l. StandsBefore l t u × (is_listed l t ≡ true)) (sym e) (ih (ap (λ l. is_listed l u) (sym e) ∙ c))

    go : (p : Bool) → is_done size past x.text ≡ p → (q : Bool) → is_done size (x ∷ past) x.text ≡ q
        → (is_listed (completed size past) u ≡ true → StandsBefore (completed size past) t u × (is_listed (completed size past) t ≡ true))
        → StandsBefore (completed size (x ∷ past)) t u × (is_listed (completed size (x ∷ past)) t ≡ true)
    go true e q f ih = same (done_before size x past e) ih
    go false e false f ih = same (done_later size x past e f) ih
    go false e true f ih = (subst (λ l. StandsBefore l t u) (sym list) (which (eqb x.text u) refl), kept (x ∷ later))
      where
        list : completed size (x ∷ past) ≡ x.text ∷ completed size past
        list = done_now size x past e f

        which : (d : Bool) → eqb x.text u ≡ d → StandsBefore (x.text ∷ completed size past) t u
        which true g = record { newer = []; older = completed size past; parts = ap (λ n. n ∷ completed size past) (eqb-true x.text u g); there = kept later }
        which false g =
            let now : (eqb x.text u || is_listed (completed size past) u) ≡ true = ap (λ l. is_listed l u) (sym list) ∙ c in
            let rest : is_listed (completed size past) u ≡ true = rw g at now in
            let s = (ih rest).0 in
            record { newer = x.text ∷ s.newer; older = s.older; parts = ap (λ l. x.text ∷ l) s.parts; there = s.there }

-- the other way
same_head : (x u : ℕ) (xs us : List ℕ) → x ∷ xs ≡ u ∷ us → (x ≡ u) × (xs ≡ us)
same_head x u xs us e = (cc, cc)

no_parts : (newer older : List ℕ) (u : ℕ) → [] ≡ newer ++ u ∷ older → ⊥
no_parts [] older u e = cc
no_parts (n ∷ newer) older u e = cc

came : (size : ℕ → ℕ) (past : List Arrival) (t u : ℕ) → StandsBefore (completed size past) t u → CameEarlier size past t u
came size [] t u s = absurd (no_parts s.newer s.older u s.parts)
came size (a ∷ past) t u s = go (is_done size past a.text) refl (is_done size (a ∷ past) a.text) refl (came size past t u)
  where
    more : CameEarlier size past t u → CameEarlier size (a ∷ past) t u
    more c = record { later = a ∷ c.later; earlier = c.earlier; parts = ap (λ l. a ∷ l) c.parts; whole = c.whole; missing = c.missing }

    split : is_done size past a.text ≡ false → (newer older : List ℕ) → a.text ∷ completed size past ≡ newer ++ u ∷ older → is_listed older t ≡ true
        → (StandsBefore (completed size past) t u → CameEarlier size past t u) → CameEarlier size (a ∷ past) t u
    split e [] older parts there ih =
        let p = same_head a.text u (completed size past) older parts in
        let listed : is_listed (completed size past) t ≡ true = ap (λ l. is_listed l t) p.1 ∙ there in
        record { later = a ∷ []; earlier = past; parts = refl; whole = (listed_done size past t listed).0; missing = ap (is_done size past) (sym p.0) ∙ e }
    split e (n ∷ newer) older parts there ih =
        let p = same_head a.text n (completed size past) (newer ++ u ∷ older) parts in
        more (ih (record { newer = newer; older = older; parts = p.1; there = there }))

    go : (b : Bool) → is_done size past a.text ≡ b → (c : Bool) → is_done size (a ∷ past) a.text ≡ c
        → (StandsBefore (completed size past) t u → CameEarlier size past t u) → CameEarlier size (a ∷ past) t u
    go true e c f ih = more (ih (subst (λ l. StandsBefore l t u) (done_before size a past e) s))
    go false e false f ih = more (ih (subst (λ l. StandsBefore l t u) (done_later size a past e f) s))
    go false e true f ih = split e s.newer s.older (sym (done_now size a past e f) ∙ s.parts) s.there ih

pub complete_in_order : CompleteInOrder
complete_in_order size past t u here there = (came size past t u, back)
  where
    back : CameEarlier size past t u → StandsBefore (completed size past) t u
    back c =
        let first : is_listed (completed size c.earlier) t ≡ true = done_listed size c.earlier t (listed_some size past t here) c.whole in
        let second : is_listed (completed size c.earlier) u ≡ false = false_from_ne_true _ (λ l.
        let z = (listed_done size c.earlier u l).0 in let m = c.missing in let q : true ≡ false = sym z ∙ m in cc) in
        let now : is_listed (completed size (c.later ++ c.earlier)) u ≡ true = ap (λ l. is_listed (completed size l) u) (sym c.parts) ∙ there in
        subst (λ l. StandsBefore (completed size l) t u) (sym c.parts) (stands size c.later c.earlier t u first second now).0
