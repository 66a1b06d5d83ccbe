-- When a piece that comes in order is no repeat, and when it is turned away.
use Rattle.std.proofs.Common.{◌≡◌, ℕ, ◌≤◌, Bool, true, false, ltb, ◌∷◌, refl, sym, ap, ◌∙◌, subst}
use Rattle.std.proofs.lemmas.Bool.{or_parts, false_from_ne_true, ltb-false}
use Rattle.sms_join.specs.Piece.{Piece}
use Rattle.sms_join.specs.Joiner.Sets.{is_open, open_sets, units_upto}
use Rattle.sms_join.specs.Joiner.{Joiner, Repeat, TooManyOpen, answer, decided, is_repeat, is_whole, has_room}
use Rattle.sms_join.specs.Arrivals.{has_piece, is_done, open_pieces}
use Rattle.sms_join.proofs.Arrived.{has_piece-of_all, listed_done}
use Rattle.sms_join.proofs.Joining.{repeated, new_piece}
use Rattle.sms_join.specs.Arrivals.OpenTexts.{IsFresh, NewIsFresh, TurnsAway}
use Rattle.sms_join.proofs.Rooms.{text_is_open, open_sets_count}

pub no_repeat : NewIsFresh
unfolding answer decided
no_repeat open_max remembered x past a j o v i clear recent n = go (has_piece past a.text a.piece.sequence) refl
  where
    not_repeat : answer open_max j a.piece ≡ Repeat → ⊥
    not_repeat e = which (is_whole j a.piece) (has_room open_max j a.piece) (rw n at e)
      where
        which : (w r : Bool) → decided false w r (units_upto (a.piece ∷ j.kept) a.piece.key a.piece.maximum) ≡ Repeat → ⊥
        which true r e = cc
        which false true e = cc
        which false false e = cc

    go : (b : Bool) → has_piece past a.text a.piece.sequence ≡ b → IsFresh x past a j
    go true seen = absurd (not_repeat (repeated open_max remembered x past a j o i clear recent v seen))
    go false seen =
        let open' : is_done x.size past a.text ≡ false = false_from_ne_true _ (λ t.
        let z = has_piece-of_all past a.text (x.size a.text) a.piece.sequence t i.from_one i.within in
        let q : true ≡ false = sym z ∙ seen in cc) in
        let p = new_piece open_max remembered x past a j o i clear v seen open' in
        record {
          unlisted = false_from_ne_true _ (λ l. let d = (listed_done x.size past a.text l).0 in let q : true ≡ false = sym d ∙ open' in cc);
          unfinished = open';
          whole = p.whole;
        }

record Decided (open_max : ℕ) (j : Joiner) (a : Piece) : Type 0 where
  repeat : is_repeat j a ≡ false
  whole : is_whole j a ≡ false
  room : has_room open_max j a ≡ false

too_many : (open_max : ℕ) (j : Joiner) (a : Piece) → answer open_max j a ≡ TooManyOpen → Decided open_max j a
unfolding answer decided
too_many open_max j a h = go (is_repeat j a) refl (is_whole j a) refl (has_room open_max j a) refl h
  where
    go : (p : Bool) → is_repeat j a ≡ p → (q : Bool) → is_whole j a ≡ q → (r : Bool) → has_room open_max j a ≡ r
        → decided p q r (units_upto (a ∷ j.kept) a.key a.maximum) ≡ TooManyOpen → Decided open_max j a
    go true e q f r g h = cc
    go false e true f r g h = cc
    go false e false f true g h = cc
    go false e false f false g h = record { repeat = e; whole = f; room = g }

pub turned_away : TurnsAway
unfolding has_room
turned_away open_max remembered x past a j o v apart i clear recent h =
    record {
      full = subst (λ n. open_max ≤ n) (ap open_sets v.kept ∙ open_sets_count x past past o apart) (ltb-false _ _ rooms.1);
      none_taken = false_from_ne_true _ (λ t.
          let z : is_open (open_pieces x.size past past) (x.key a.text) ≡ true = text_is_open x past past a.text o t fresh.unfinished in
          let y : is_open j.kept a.piece.key ≡ true = ap (λ l. is_open l a.piece.key) v.kept ∙ (ap (is_open (open_pieces x.size past past)) i.key ∙ z) in
          let w = rooms.0 in
          let q : true ≡ false = sym y ∙ w in cc);
      incomplete = sym fresh.whole ∙ d.whole;
    }
  where
    d : Decided open_max j a.piece
    d = too_many open_max j a.piece h

    fresh : IsFresh x past a j
    fresh = no_repeat open_max remembered x past a j o v i clear recent d.repeat

    rooms : (is_open j.kept a.piece.key ≡ false) × (ltb (open_sets j.kept) open_max ≡ false)
    rooms = or_parts (is_open j.kept a.piece.key) (ltb (open_sets j.kept) open_max) d.room
