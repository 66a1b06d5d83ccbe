-- Which texts are open, and how many sets.
use Rattle.std.proofs.Common.{◌≡◌, ℕ, suc, Bool, true, false, cond, ◌&&◌, ◌||◌, eqb, List, [], ◌∷◌, length, refl, sym, ap, ◌∙◌, subst, inl, inr, ◌⊎◌}
use Rattle.std.proofs.lemmas.Bool.{eqb-true, eq-eqb, or_right, false_from_ne_true}
use Rattle.sms_join.specs.declared.key.Key.{Key}
use Rattle.sms_join.specs.Key.{same_key}
use Rattle.sms_join.specs.Joiner.Sets.{is_open, open_sets}
use Rattle.sms_join.specs.Arrivals.{Arrival, Texts, AllOf, has_piece, is_done, open_pieces, IsOf}
use Rattle.sms_join.specs.Arrivals.Joining.{is_clear}
use Rattle.sms_join.specs.Arrivals.OpenTexts.{OpenSetsAreOpenTexts, StayApart}
use Rattle.sms_join.proofs.SameKeys.{same_key_refl, same_key_true}
use Rattle.sms_join.proofs.Arrived.{has_pieces-more}
use Rattle.sms_join.proofs.Held.{clear_text}
use Rattle.sms_join.specs.Arrivals.{has_text, open_texts, OpenApart}

text_cases : (a : Arrival) (past : List Arrival) (t : ℕ) → has_text (a ∷ past) t ≡ true → (a.text ≡ t) ⊎ (has_text past t ≡ true)
text_cases a past t h = go (eqb a.text t) refl h
  where
    go : (b : Bool) → eqb a.text t ≡ b → (b || has_text past t) ≡ true → (a.text ≡ t) ⊎ (has_text past t ≡ true)
    go true e h = inl (eqb-true _ _ e)
    go false e h = inr h

was_open : (size : ℕ → ℕ) (a : Arrival) (past : List Arrival) (t : ℕ) → is_done size (a ∷ past) t ≡ false → is_done size past t ≡ false
was_open size a past t h = false_from_ne_true _ (λ e. let d = has_pieces-more a past t (size t) e in let q : true ≡ false = sym d ∙ h in cc)

module _ (remembered : ℕ) (x : Texts) (a : Arrival) (past : List Arrival) (o : AllOf x past) (i : IsOf x a)
    (clear : is_clear remembered x.size past past a ≡ true) where
  one_new : (u : ℕ) → has_text past u ≡ true → is_done x.size past u ≡ false → x.key a.text ≡ x.key u → a.text ≡ u
  one_new u h n k = go (eqb u a.text) refl
    where
      go : (b : Bool) → eqb u a.text ≡ b → a.text ≡ u
      go true e = sym (eqb-true _ _ e)
      go false e =
          let c = clear_text remembered x past past a u o clear h (sym k ∙ sym i.key) e in
          let d = c.done in
          let q : true ≡ false = sym d ∙ n in cc

  pub apart_more : OpenApart x.key x.size past → OpenApart x.key x.size (a ∷ past)
  apart_more p t u ht hu nt nu k =
      go (text_cases a past t ht) (text_cases a past u hu) (was_open x.size a past t nt) (was_open x.size a past u nu)
    where
      go : (a.text ≡ t) ⊎ (has_text past t ≡ true) → (a.text ≡ u) ⊎ (has_text past u ≡ true)
          → is_done x.size past t ≡ false → is_done x.size past u ≡ false → t ≡ u
      go (inl e) (inl f) mt mu = sym e ∙ f
      go (inl e) (inr f) mt mu = sym e ∙ one_new u f mu (ap x.key e ∙ k)
      go (inr e) (inl f) mt mu = sym (one_new t e mt (ap x.key f ∙ sym k)) ∙ f
      go (inr e) (inr f) mt mu = p t u e f mt mu k

piece_text : (past : List Arrival) (t n : ℕ) → has_piece past t n ≡ true → has_text past t ≡ true
piece_text [] t n h = h
piece_text (a ∷ past) t n h = go (eqb a.text t) h (piece_text past t n)
  where
    go : (b : Bool) → ((b && eqb a.piece.sequence n) || has_piece past t n) ≡ true → (has_piece past t n ≡ true → has_text past t ≡ true)
        → (b || has_text past t) ≡ true
    go true h f = refl
    go false h f = f h

-- a set is open just where a text with its key is
pub text_is_open : (x : Texts) (all past : List Arrival) (t : ℕ) → AllOf x past → has_text past t ≡ true → is_done x.size all t ≡ false
    → is_open (open_pieces x.size all past) (x.key t) ≡ true
text_is_open x all [] t o h n = cc
text_is_open x all (b ∷ bs) t o h n =
    go (has_piece bs b.text b.piece.sequence) refl (is_done x.size all b.text) refl (eqb b.text t) refl h (λ g. text_is_open x all bs t o.1 g n)
  where
    go : (p : Bool) → has_piece bs b.text b.piece.sequence ≡ p → (d : Bool) → is_done x.size all b.text ≡ d
        → (c : Bool) → eqb b.text t ≡ c → (c || has_text bs t) ≡ true
        → (has_text bs t ≡ true → is_open (open_pieces x.size all bs) (x.key t) ≡ true)
        → is_open (cond (p || d) (open_pieces x.size all bs) (b.piece ∷ open_pieces x.size all bs)) (x.key t) ≡ true
    go true e d f true g h ih = ih (piece_text bs t b.piece.sequence (subst (λ u. has_piece bs u b.piece.sequence ≡ true) (eqb-true _ _ g) e))
    go true e d f false g h ih = ih h
    go false e true f true g h ih =
        let z : is_done x.size all t ≡ true = subst (λ u. is_done x.size all u ≡ true) (eqb-true _ _ g) f in
        let q : true ≡ false = sym z ∙ n in cc
    go false e true f false g h ih = ih h
    go false e false f true g h ih =
        let key : b.piece.key ≡ x.key t = o.0.key ∙ ap x.key (eqb-true _ _ g) in
        rw (key, same_key_refl (x.key t)) refl
    go false e false f false g h ih = or_right _ _ (ih h)

record Open (x : Texts) (all past : List Arrival) (k : Key) : Type 0 where
  text : ℕ
  there : has_text past text ≡ true
  unfinished : is_done x.size all text ≡ false
  key : x.key text ≡ k

open_is_text : (x : Texts) (all past : List Arrival) (k : Key) → AllOf x past → is_open (open_pieces x.size all past) k ≡ true → Open x all past k
open_is_text x all [] k o h = cc
open_is_text x all (b ∷ bs) k o h =
    go (has_piece bs b.text b.piece.sequence) (is_done x.size all b.text) refl h (open_is_text x all bs k o.1)
  where
    later : Open x all bs k → Open x all (b ∷ bs) k
    later g = record { text = g.text; there = or_right _ _ g.there; unfinished = g.unfinished; key = g.key }

    go : (p d : Bool) → is_done x.size all b.text ≡ d
        → is_open (cond (p || d) (open_pieces x.size all bs) (b.piece ∷ open_pieces x.size all bs)) k ≡ true
        → (is_open (open_pieces x.size all bs) k ≡ true → Open x all bs k) → Open x all (b ∷ bs) k
    go true d f h ih = later (ih h)
    go false true f h ih = later (ih h)
    go false false f h ih = which (same_key b.piece.key k) refl h
      where
        which : (c : Bool) → same_key b.piece.key k ≡ c → (c || is_open (open_pieces x.size all bs) k) ≡ true → Open x all (b ∷ bs) k
        which true e h = record { text = b.text; there = rw (eq-eqb b.text b.text refl) refl; unfinished = f; key = sym o.0.key ∙ same_key_true _ _ e }
        which false e h = later (ih h)

-- as many sets are open as texts
pub open_sets_count : (x : Texts) (all past : List Arrival) → AllOf x past
    → ((t u : ℕ) → has_text past t ≡ true → has_text past u ≡ true → is_done x.size all t ≡ false → is_done x.size all u ≡ false → x.key t ≡ x.key u → t ≡ u)
    → open_sets (open_pieces x.size all past) ≡ length (open_texts x.size all past)
open_sets_count x all [] o apart = refl
open_sets_count x all (b ∷ bs) o apart =
    go (has_piece bs b.text b.piece.sequence) refl (is_done x.size all b.text) refl (has_text bs b.text) refl
    (open_sets_count x all bs o.1 (λ t u p q. apart t u (or_right _ _ p) (or_right _ _ q)))
  where
    go : (p : Bool) → has_piece bs b.text b.piece.sequence ≡ p → (d : Bool) → is_done x.size all b.text ≡ d → (c : Bool) → has_text bs b.text ≡ c
        → open_sets (open_pieces x.size all bs) ≡ length (open_texts x.size all bs)
        → open_sets (cond (p || d) (open_pieces x.size all bs) (b.piece ∷ open_pieces x.size all bs))
        ≡ length (cond (c || d) (open_texts x.size all bs) (b.text ∷ open_texts x.size all bs))
    go true e d f true g ih = ih
    go true e d f false g ih =
        let z = piece_text bs b.text b.piece.sequence e in let q : true ≡ false = sym z ∙ g in cc
    go false e true f true g ih = ih
    go false e true f false g ih = ih
    go false e false f true g ih =
        let z : is_open (open_pieces x.size all bs) b.piece.key ≡ true =
        ap (is_open (open_pieces x.size all bs)) o.0.key ∙ text_is_open x all bs b.text o.1 g f in
        rw z ih
    go false e false f false g ih =
        let z : is_open (open_pieces x.size all bs) b.piece.key ≡ false = false_from_ne_true _ (λ h. no (open_is_text x all bs b.piece.key o.1 h)) in
        rw z (ap suc ih)
      where
        no : Open x all bs b.piece.key → ⊥
        no h =
            let same : h.text ≡ b.text = apart h.text b.text (or_right _ _ h.there) (rw (eq-eqb b.text b.text refl) refl) h.unfinished f (h.key ∙ o.0.key) in
            let z : has_text bs b.text ≡ true = subst (λ u. has_text bs u ≡ true) same h.there in
            let q : true ≡ false = sym z ∙ g in cc

pub open_sets_are : OpenSetsAreOpenTexts
open_sets_are x past o apart = open_sets_count x past past o apart

pub stay_apart : StayApart
stay_apart remembered x a past o i clear apart = apart_more remembered x a past o i clear apart
