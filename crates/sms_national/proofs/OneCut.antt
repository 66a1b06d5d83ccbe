-- Septets have no second cut.
use Rattle.std.proofs.Common.{◌≡◌, ℕ, ◌+◌, ◌<◌, ◌≤◌, ◌⊎◌, inl, inr, List, [], ◌∷◌, ◌++◌, length, refl, sym, ap, subst, ◌∙◌, arith, length-append}
use Rattle.std.proofs.lemmas.Bool.{cases_lt}
use Rattle.std.proofs.lemmas.List.{append-nil}
use Rattle.sms_text.specs.Inside.TextLaws.{same_list}
use Rattle.sms_language.specs.TextUnder.{ends_whole}
use Rattle.sms_language.specs.declared.tables.Tables.{Tables}
use Rattle.sms_tpdu.specs.declared.user_data.concat.Width.{Width}
use Rattle.sms_national.specs.Cut.{IsPiece, ArePieces, AreSent, HasOneCut}
use Rattle.sms_national.specs.Rooms.{room_alone, room_beside}

-- of two fronts of one list the longer is the shorter and more
further : (p q x y : List ℕ) → p ++ x ≡ q ++ y → length p ≤ length q → (more : List ℕ) × (q ≡ p ++ more) × (x ≡ more ++ y)
further [] q x y e le = (q, refl, e)
further (a ∷ p) [] x y e le = absurd (omega arith)
further (a ∷ p) (b ∷ q) x y e le =
    let first : a ≡ b = cc in
    let m = further p q x y (cc) (omega arith) in
    (m.0, ap (λ (n : ℕ). n ∷ q) (sym first) ∙ ap (λ (l : List ℕ). a ∷ l) m.1, m.2)

same_end : (room : ℕ) (p q x y : List ℕ) → p ++ x ≡ q ++ y → length p ≤ length q → IsPiece room p x → IsPiece room q y → (q ≡ p) × (y ≡ x)
same_end room p q x y e le is other = go m.0 m.1 m.2
  where
    m : (more : List ℕ) × (q ≡ p ++ more) × (x ≡ more ++ y)
    m = further p q x y e le

    go : (more : List ℕ) → q ≡ p ++ more → x ≡ more ++ y → (q ≡ p) × (y ≡ x)
    go [] e1 e2 = (e1 ∙ append-nil p, sym e2)
    go (code ∷ more) e1 e2 =
        let over : room < length p + length (code ∷ more) = is.full (code ∷ more) y (sym e2) (omega arith) (ap ends_whole (sym e1) ∙ other.whole) in
        absurd (omega (arith, over, other.fits, ap length e1, length-append p (code ∷ more)))

same_piece : (room : ℕ) (p q x y : List ℕ) → p ++ x ≡ q ++ y → IsPiece room p x → IsPiece room q y → (q ≡ p) × (y ≡ x)
same_piece room p q x y e is other = go (cases_lt (length p) (length q))
  where
    go : (length p < length q) ⊎ (length q ≤ length p) → (q ≡ p) × (y ≡ x)
    go (inl less) = same_end room p q x y e (omega (arith, less)) is other
    go (inr more) = let r = same_end room q p y x (sym e) more other is in (sym r.0, sym r.1)

nothing_before : (room : ℕ) (p x : List ℕ) → p ++ x ≡ [] → IsPiece room p x → ⊥
nothing_before room p x e is = omega (arith, is.some, ap length e, length-append p x)

pub same_pieces : (room : ℕ) (ps qs : List (List ℕ)) (septets : List ℕ) → ArePieces room ps septets → ArePieces room qs septets → qs ≡ ps
same_pieces room [] [] septets a b = refl
same_pieces room [] (q ∷ qs) septets a b = absurd (nothing_before room q b.0 (b.1 ∙ a) b.2)
same_pieces room (p ∷ ps) [] septets a b = absurd (nothing_before room p a.0 (a.1 ∙ b) a.2)
same_pieces room (p ∷ ps) (q ∷ qs) septets a b =
    let same = same_piece room p q a.0 b.0 (a.1 ∙ sym b.1) a.2 b.2 in
    let rest : qs ≡ ps = same_pieces room ps qs a.0 a.3 (subst (λ (l : List ℕ). ArePieces room qs l) same.1 b.3) in
    ap (λ (l : List ℕ). l ∷ qs) same.0 ∙ ap (λ (l : List (List ℕ)). p ∷ l) rest

pub same_sent : (width : Width) (tables : Tables) (septets : List ℕ) (ps qs : List (List ℕ)) → AreSent width tables septets ps → AreSent width tables septets qs → qs ≡ ps
same_sent width tables septets ps qs a b = go (cases_lt (room_alone tables) (length septets))
  where
    go : (room_alone tables < length septets) ⊎ (length septets ≤ room_alone tables) → qs ≡ ps
    go (inl more) = same_pieces (room_beside width tables) ps qs septets (a.parted more) (b.parted more)
    go (inr fits) = b.alone fits ∙ sym (a.alone fits)

pub has_one_cut : HasOneCut
has_one_cut width tables text ps qs a b =
    let same : a.0 ≡ b.0 = same_list a.0 b.0 (sym a.1 ∙ b.1) in
    same_sent width tables a.0 ps qs a.2 (subst (λ (l : List ℕ). AreSent width tables l qs) (sym same) b.2)
