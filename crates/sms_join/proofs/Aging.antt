-- An aging keeps that the open sets are those of the open texts.
use Rattle.std.proofs.Common.{◌≡◌, ℕ, zero, suc, Bool, true, false, cond, not, ◌&&◌, ◌||◌, eqb, List, [], ◌∷◌, map, take, refl, sym, ap, ◌∙◌, subst}
use Rattle.std.proofs.lemmas.Bool.{eqb-true, and_parts, or_right, false_from_ne_true}
use Rattle.sms_join.specs.declared.key.Key.{Key}
use Rattle.sms_join.specs.Arrivals.{Arrival, Texts, AllOf, has_text, has_piece, has_pieces, is_done, completed, open_pieces, remaining, OpenApart, IsOf}
use Rattle.sms_join.specs.Arrivals.OpenTexts.{AgesOne}
use Rattle.sms_join.proofs.Arrived.{has_pieces-same, has_pieces-more}
use Rattle.sms_join.specs.Joiner.Aging.{young, aged, is_old}

has_pieces-within : (past bs : List Arrival) (t n : ℕ) → ((i : ℕ) → has_piece past t i ≡ true → has_piece bs t i ≡ true)
    → has_pieces past t n ≡ true → has_pieces bs t n ≡ true
has_pieces-within past bs t zero h g = refl
has_pieces-within past bs t (suc n) h g =
    let p = and_parts (has_piece past t (suc n)) (has_pieces past t n) g in
    rw (h (suc n) p.0, has_pieces-within past bs t n h p.1) refl

module _ (x : Texts) (old : Key → Bool) (all : List Arrival) where
  abbrev pub gone : ℕ → Bool
  gone t = not (is_done x.size all t) && old (x.key t)

  -- a text that is not gone keeps its pieces
  piece_stays : (bs : List Arrival) (t n : ℕ) → AllOf x bs → gone t ≡ false → has_piece (remaining x.size old all bs) t n ≡ has_piece bs t n
  piece_stays [] t n o g = refl
  piece_stays (b ∷ bs) t n o g = go (not (is_done x.size all b.text) && old b.piece.key) refl (eqb b.text t) refl (piece_stays bs t n o.1 g)
    where
      go : (c : Bool) → (not (is_done x.size all b.text) && old b.piece.key) ≡ c → (e : Bool) → eqb b.text t ≡ e
          → has_piece (remaining x.size old all bs) t n ≡ has_piece bs t n
          → has_piece (cond c (remaining x.size old all bs) (b ∷ remaining x.size old all bs)) t n ≡ ((e && eqb b.piece.sequence n) || has_piece bs t n)
      go false c e f ih = rw (f, ih) refl
      go true c false f ih = ih
      go true c true f ih =
          let same : b.text ≡ t = eqb-true _ _ f in
          let z : gone t ≡ true = subst (λ u. gone u ≡ true) same (ap (λ k. not (is_done x.size all b.text) && old k) (sym o.0.key) ∙ c) in
          let q : true ≡ false = sym z ∙ g in cc

  pub done_stays : (bs : List Arrival) (t : ℕ) → AllOf x bs → gone t ≡ false → is_done x.size (remaining x.size old all bs) t ≡ is_done x.size bs t
  done_stays bs t o g = has_pieces-same (remaining x.size old all bs) bs t (x.size t) (λ i. piece_stays bs t i o g)

  pub not_gone : (b : Arrival) → IsOf x b → (not (is_done x.size all b.text) && old b.piece.key) ≡ false → gone b.text ≡ false
  not_gone b i c = ap (λ k. not (is_done x.size all b.text) && old k) (sym i.key) ∙ c

  pub completed_stays : (bs : List Arrival) → AllOf x bs → ((t n : ℕ) → has_piece bs t n ≡ true → has_piece all t n ≡ true)
      → completed x.size (remaining x.size old all bs) ≡ completed x.size bs
  completed_stays [] o sub = refl
  completed_stays (b ∷ bs) o sub =
      go (not (is_done x.size all b.text) && old b.piece.key) refl
      (completed_stays bs o.1 (λ t n h. sub t n (or_right _ _ h)))
    where
      go : (c : Bool) → (not (is_done x.size all b.text) && old b.piece.key) ≡ c → completed x.size (remaining x.size old all bs) ≡ completed x.size bs
          → completed x.size (cond c (remaining x.size old all bs) (b ∷ remaining x.size old all bs)) ≡ completed x.size (b ∷ bs)
      go false c ih =
          let g = not_gone b o.0 c in
          let one = done_stays bs b.text o.1 g in
          let two : is_done x.size (b ∷ remaining x.size old all bs) b.text ≡ is_done x.size (b ∷ bs) b.text =
          has_pieces-same (b ∷ remaining x.size old all bs) (b ∷ bs) b.text (x.size b.text)
          (λ i. ap (λ v. (eqb b.text b.text && eqb b.piece.sequence i) || v) (piece_stays bs b.text i o.1 g)) in
          rw (one, two, ih) refl
      go true c ih =
          let d = (and_parts (not (is_done x.size all b.text)) (old b.piece.key) c).0 in
          let un : is_done x.size all b.text ≡ false = from_not (is_done x.size all b.text) d in
          let two : is_done x.size (b ∷ bs) b.text ≡ false = false_from_ne_true _ (λ h.
          let z = has_pieces-within (b ∷ bs) all b.text (x.size b.text) (sub b.text) h in let q : true ≡ false = sym z ∙ un in cc) in
          let one : is_done x.size bs b.text ≡ false = false_from_ne_true _ (λ h.
          let z = has_pieces-more b bs b.text (x.size b.text) h in let q : true ≡ false = sym z ∙ two in cc) in
          rw (one, two, ih) refl
        where
          from_not : (v : Bool) → not v ≡ true → v ≡ false
          from_not true h = sym h
          from_not false h = refl

  -- what remains is of texts that are not gone
  pub text_remains : (bs : List Arrival) (t : ℕ) → AllOf x bs → has_text (remaining x.size old all bs) t ≡ true
      → (has_text bs t ≡ true) × (gone t ≡ false)
  text_remains [] t o h = cc
  text_remains (b ∷ bs) t o h = go (not (is_done x.size all b.text) && old b.piece.key) refl h (text_remains bs t o.1)
    where
      later : (has_text bs t ≡ true) × (gone t ≡ false) → (has_text (b ∷ bs) t ≡ true) × (gone t ≡ false)
      later p = (or_right _ _ p.0, p.1)

      go : (c : Bool) → (not (is_done x.size all b.text) && old b.piece.key) ≡ c
          → has_text (cond c (remaining x.size old all bs) (b ∷ remaining x.size old all bs)) t ≡ true
          → (has_text (remaining x.size old all bs) t ≡ true → (has_text bs t ≡ true) × (gone t ≡ false))
          → (has_text (b ∷ bs) t ≡ true) × (gone t ≡ false)
      go true c h ih = later (ih h)
      go false c h ih = which (eqb b.text t) refl h
        where
          which : (e : Bool) → eqb b.text t ≡ e → (e || has_text (remaining x.size old all bs) t) ≡ true → (has_text (b ∷ bs) t ≡ true) × (gone t ≡ false)
          which true e h = (rw e refl, subst (λ u. gone u ≡ false) (eqb-true _ _ e) (not_gone b o.0 c))
          which false e h = later (ih h)

  -- the young pieces are those of what remains
  young_are : (all' : List Arrival) → ((t : ℕ) → gone t ≡ false → is_done x.size all' t ≡ is_done x.size all t)
      → (bs : List Arrival) → AllOf x bs
      → young old (open_pieces x.size all bs) ≡ open_pieces x.size all' (remaining x.size old all bs)
  young_are all' same [] o = refl
  young_are all' same (b ∷ bs) o =
      go (has_piece bs b.text b.piece.sequence) refl (is_done x.size all b.text) refl (old b.piece.key) refl (young_are all' same bs o.1)
    where
      go : (p : Bool) → has_piece bs b.text b.piece.sequence ≡ p → (d : Bool) → is_done x.size all b.text ≡ d → (c : Bool) → old b.piece.key ≡ c
          → young old (open_pieces x.size all bs) ≡ open_pieces x.size all' (remaining x.size old all bs)
          → young old (cond (p || d) (open_pieces x.size all bs) (b.piece ∷ open_pieces x.size all bs))
          ≡ open_pieces x.size all' (cond (not d && c) (remaining x.size old all bs) (b ∷ remaining x.size old all bs))
      go p e true f c g ih =
          let n : gone b.text ≡ false = rw f refl in
          let d' = same b.text n ∙ f in
          let skip : (has_piece (remaining x.size old all bs) b.text b.piece.sequence || true) ≡ true = or_right _ _ refl in
          let skip' : (p || true) ≡ true = or_right _ _ refl in
          rw (d', skip, skip') ih
      go true e false f true g ih = ih
      go false e false f true g ih = rw g ih
      go p e false f false g ih =
          let n : gone b.text ≡ false = not_gone b o.0 (rw (f, g) refl) in
          let d' = same b.text n ∙ f in
          let p' = piece_stays bs b.text b.piece.sequence o.1 n ∙ e in
          rw (d', p') (which p)
        where
          which : (p : Bool) → young old (cond (p || false) (open_pieces x.size all bs) (b.piece ∷ open_pieces x.size all bs))
              ≡ cond (p || false) (open_pieces x.size all' (remaining x.size old all bs)) (b.piece ∷ open_pieces x.size all' (remaining x.size old all bs))
          which true = ih
          which false = rw g (ap (λ l. b.piece ∷ l) ih)

-- what is left of the texts
pub all_remaining : (x : Texts) (old : Key → Bool) (all bs : List Arrival) → AllOf x bs → AllOf x (remaining x.size old all bs)
all_remaining x old all [] o = o
all_remaining x old all (b ∷ bs) o = go (not (is_done x.size all b.text) && old b.piece.key) (all_remaining x old all bs o.1)
  where
    go : (c : Bool) → AllOf x (remaining x.size old all bs) → AllOf x (cond c (remaining x.size old all bs) (b ∷ remaining x.size old all bs))
    go true ih = ih
    go false ih = (o.0, ih)

apart_remaining : (x : Texts) (old : Key → Bool) (past : List Arrival) → AllOf x past → OpenApart x.key x.size past
    → OpenApart x.key x.size (remaining x.size old past past)
apart_remaining x old past o apart t u p q m n k =
    let a = text_remains x old past past t o p in
    let b = text_remains x old past past u o q in
    apart t u a.0 b.0 (sym (done_stays x old past past t o a.1) ∙ m) (sym (done_stays x old past past u o b.1) ∙ n) k

-- the state after aging
pub ages_one : AgesOne
unfolding aged
ages_one now remembered x past j o v =
    record {
      holds = record {
        kept = ap (young (is_old now j.kept)) v.kept
            ∙ young_are x (is_old now j.kept) past (remaining x.size (is_old now j.kept) past past)
            (λ t g. done_stays x (is_old now j.kept) past past t o g) past o;
        finished = v.finished ∙ ap (λ l. map x.key (take remembered l)) (sym stays);
      };
      completed = stays;
      apart = apart_remaining x (is_old now j.kept) past o;
    }
  where
    stays : completed x.size (remaining x.size (is_old now j.kept) past past) ≡ completed x.size past
    stays = completed_stays x (is_old now j.kept) past past o (λ t n h. h)
