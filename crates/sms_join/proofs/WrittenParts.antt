-- Parts of octets, one after another, by where they end.
use Rattle.std.proofs.Common.{◌≡◌, ℕ, zero, suc, ◌-◌, ◌<◌, ◌≤◌, List, [], ◌∷◌, ◌++◌, length, take, drop, get_or, Some, refl, sym, ap, subst, ◌∙◌, length-append, length-drop, arith}
use Rattle.std.specs.Prelude.{slice_get, slice_range}
use Rattle.std.proofs.lemmas.List.{take-append-le, drop-append-le, drop_at, take_all}
use Rattle.sms_tpdu.specs.declared.user_data.concat.Width.{Width}
use Rattle.sms_tpdu.specs.UserData.{SpellsUserData}
use Rattle.sms_join.specs.declared.segment.Segment.{Segment}
use Rattle.sms_join.specs.Segments.User.{user_of}
use Rattle.sms_join.specs.Segments.Written.{AreUsersOf}
use Rattle.sms_join.specs.Inside.SegmentsAt.{RiseTo, start_at}
use Rattle.sms_join.specs.Inside.WrittenAt.{octets_at}
use Rattle.sms_join.proofs.Ends.{rise-push, end_inside}

-- ---- one part more

part_kept : (octets more : List ℕ) (start end : ℕ) → start ≤ end → end ≤ length octets → slice_range (octets ++ more) start end ≡ slice_range octets start end
part_kept octets more start end order inside =
    ap (take (end - start)) (drop-append-le start octets more (omega (arith, order, inside)))
    ∙ take-append-le (end - start) (drop start octets) more (omega (arith, order, inside, length-drop start octets))

last_part : (octets more : List ℕ) → slice_range (octets ++ more) (length octets) (length (octets ++ more)) ≡ more
last_part octets more =
    ap (take (length (octets ++ more) - length octets)) (drop_at octets more (length octets) refl)
    ∙ take_all (length (octets ++ more) - length octets) more (omega (arith, length-append octets more))

parts-push : (octets more : List ℕ) (start : ℕ) (ends : List ℕ) → RiseTo start ends (length octets)
    → octets_at (octets ++ more) start (ends ++ length (octets ++ more) ∷ []) ≡ octets_at octets start ends ++ more ∷ []
parts-push octets more start [] e = ap (λ n. slice_range (octets ++ more) n (length (octets ++ more)) ∷ []) e ∙ ap (λ (l : List ℕ). l ∷ []) (last_part octets more)
parts-push octets more start (end ∷ ends) rise =
    ap (λ (l : List ℕ). l ∷ octets_at (octets ++ more) end (ends ++ length (octets ++ more) ∷ [])) (part_kept octets more start end rise.0 (end_inside end (length octets) ends rise.1))
    ∙ ap (λ (l : List (List ℕ)). slice_range octets start end ∷ l) (parts-push octets more end ends rise.1)

users-push : (width : Width) (reference : ℕ) (segments : List Segment) (parts : List (List ℕ)) (segment : Segment) (octets : List ℕ)
    → AreUsersOf width reference segments parts → SpellsUserData (user_of width reference segment) octets → AreUsersOf width reference (segments ++ segment ∷ []) (parts ++ octets ∷ [])
users-push width reference [] [] segment octets are spelled = (spelled, tt)
users-push width reference (s ∷ segments) (o ∷ parts) segment octets are spelled = (are.0, users-push width reference segments parts segment octets are.1 spelled)
users-push width reference [] (o ∷ parts) segment octets are spelled = absurd are
users-push width reference (s ∷ segments) [] segment octets are spelled = absurd are

-- what is written so far
pub record WrittenUpTo (width : Width) (reference : ℕ) (segments : List Segment) (octets ends : List ℕ) : Type 0 where
  pub rising : RiseTo 0 ends (length octets)
  pub users : AreUsersOf width reference segments (octets_at octets 0 ends)

pub nothing_written : (width : Width) (reference : ℕ) → WrittenUpTo width reference [] [] []
nothing_written width reference = record { rising = refl; users = tt }

pub one_written_more : (width : Width) (reference : ℕ) (segments : List Segment) (octets ends more : List ℕ) (segment : Segment) → SpellsUserData (user_of width reference segment) more
    → WrittenUpTo width reference segments octets ends → WrittenUpTo width reference (segments ++ segment ∷ []) (octets ++ more) (ends ++ length (octets ++ more) ∷ [])
one_written_more width reference segments octets ends more segment spelled so_far = record {
  rising = rise-push 0 (length octets) (length (octets ++ more)) ends so_far.rising (omega (arith, length-append octets more));
  users = subst (AreUsersOf width reference (segments ++ segment ∷ [])) (sym (parts-push octets more 0 ends so_far.rising)) (users-push width reference segments (octets_at octets 0 ends) segment more so_far.users spelled);
}

-- ---- the part of an index

pub length-octets_at : (octets : List ℕ) (start : ℕ) (ends : List ℕ) → length (octets_at octets start ends) ≡ length ends
length-octets_at octets start [] = refl
length-octets_at octets start (end ∷ ends) = ap suc (length-octets_at octets end ends)

pub part_at : (octets : List ℕ) (start index : ℕ) (ends : List ℕ) → index < length ends
    → slice_get (octets_at octets start ends) index ≡ Some (slice_range octets (start_at start ends index) (get_or ends index 0))
part_at octets start index [] inside = absurd (omega (arith, inside))
part_at octets start zero (end ∷ ends) inside = refl
part_at octets start (suc index) (end ∷ ends) inside = part_at octets end index ends (omega (arith, inside))
