-- Which texts are completed by a list of arrivals, and in which order. Lists have the newest entry first.
use Rattle.std.proofs.Common.{◌≡◌, ℕ, zero, suc, ◌<◌, Bool, true, false, cond, eqb, nat_eq, ◌||◌, List, [], ◌∷◌, refl, sym, ◌∙◌, subst, arith}
use Rattle.sms_join.specs.Arrivals.Completion.{CompletedAreWhole}
use Rattle.sms_world.proofs.Arrived.{done_as_before}
use Rattle.std.proofs.lemmas.Bool.{eqb-true, eq-eqb, or_right, false_from_ne_true}
use Rattle.sms_join.specs.Arrivals.{Arrival, has_pieces, is_done, completed, is_listed}
use Rattle.std.specs.List.{AllByRecursion, IsDistinct}

none_done : (t n : ℕ) → 0 < n → has_pieces [] t n ≡ true → ⊥
none_done t zero l h = absurd (omega arith)
none_done t (suc n) l h = cc

-- every piece of a text that has some has arrived: it is completed
pub done_listed : (size : ℕ → ℕ) (past : List Arrival) (t : ℕ) → 0 < size t → is_done size past t ≡ true → is_listed (completed size past) t ≡ true
done_listed size [] t l h = absurd (none_done t (size t) l h)
done_listed size (a ∷ past) t l h =
    go (is_done size past t) refl (is_done size past a.text) refl (is_done size (a ∷ past) a.text) refl (eqb a.text t) refl (λ g. done_listed size past t l g)
  where
    go : (d : Bool) → is_done size past t ≡ d → (b : Bool) → is_done size past a.text ≡ b → (c : Bool) → is_done size (a ∷ past) a.text ≡ c
        → (e : Bool) → eqb a.text t ≡ e → (is_done size past t ≡ true → is_listed (completed size past) t ≡ true)
        → is_listed (cond b (completed size past) (cond c (a.text ∷ completed size past) (completed size past))) t ≡ true
    go true f true g c k e q ih = ih f
    go true f false g true k e q ih = or_right _ _ (ih f)
    go true f false g false k e q ih = ih f
    go false f b g c k false q ih = let x : true ≡ false = sym h ∙ (done_as_before size a past t q ∙ f) in cc
    go false f true g c k true q ih =
        let x : is_done size past t ≡ true = subst (λ n. is_done size past n ≡ true) (eqb-true a.text t q) g in
        let y : true ≡ false = sym x ∙ f in cc
    go false f false g true k true q ih = rw q refl
    go false f false g false k true q ih =
        let x : is_done size (a ∷ past) t ≡ false = subst (λ n. is_done size (a ∷ past) n ≡ false) (eqb-true a.text t q) k in
        let y : true ≡ false = sym h ∙ x in cc

-- a text that is not listed is none of those that are
unlisted : (ns : List ℕ) (n : ℕ) → is_listed ns n ≡ false → AllByRecursion (λ m. nat_eq n m ≡ false) ns
unlisted [] n e = tt
unlisted (m ∷ ns) n e = let p = go (eqb m n) refl e in (p.0, unlisted ns n p.1)
  where
    go : (b : Bool) → eqb m n ≡ b → (b || is_listed ns n) ≡ false → (nat_eq n m ≡ false) × (is_listed ns n ≡ false)
    go true q e = absurd cc
    go false q e = (false_from_ne_true _ (λ k. let x : true ≡ false = sym (eq-eqb m n (sym (eqb-true n m k))) ∙ q in cc), e)

pub completed_distinct : CompletedAreWhole → (size : ℕ → ℕ) (past : List Arrival) → IsDistinct nat_eq (completed size past)
unfolding IsDistinct
completed_distinct law size [] = tt
completed_distinct law size (a ∷ past) = go (is_done size past a.text) refl (is_done size (a ∷ past) a.text) (completed_distinct law size past)
  where
    go : (b : Bool) → is_done size past a.text ≡ b → (c : Bool) → IsDistinct nat_eq (completed size past)
        → IsDistinct nat_eq (cond b (completed size past) (cond c (a.text ∷ completed size past) (completed size past)))
    go true e c ih = ih
    go false e false ih = ih
    go false e true ih =
        (unlisted (completed size past) a.text (false_from_ne_true _ (λ l. let d = (law size past a.text l).0 in let q : true ≡ false = sym d ∙ e in cc)), ih)
