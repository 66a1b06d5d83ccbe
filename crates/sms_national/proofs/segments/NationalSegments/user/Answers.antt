use Rattle.std.proofs.Common.{◌≡◌, ◌+◌, ◌<◌, ◌≤◌, ℕ, List, length, get_or, sym, ap, subst, ◌∙◌, arith}
use Rattle.std.proofs.lemmas.Bool.{ltb-true}
use Rattle.sms_tpdu.specs.UserData.{header_octets}
use Rattle.sms_national.specs.Segments.{Cut}
use Rattle.sms_national.specs.Rooms.{room_alone, room_beside}
use Rattle.sms_national.proofs.HeaderLaws.{HasRoomFor, segment_has_room, at_index}
use Rattle.sms_national.proofs.segments.NationalSegments.user.Goals as goal

pub returns-clause-fits : goal.returns-clause-fits
returns-clause-fits c =
    let found = c.in-Some.ensures.lookup in
    let pieces : List (List ℕ) = c.self.inside.pieces.items in
    let piece : List ℕ = c.in-Some.piece.now in
    let all : c.deref.result.now ≡ pieces = c.deref.ensures.value in
    let inside : c.args.index < length pieces = subst (λ (l : List (List ℕ)). c.args.index < length l) all (ltb-true _ _ (sym found.0)) in
    let is : piece ≡ get_or pieces c.args.index piece = found.1 ∙ ap (λ (l : List (List ℕ)). get_or l c.args.index piece) all in
    let same : length c.in_ok-septets.septets ≡ length (get_or pieces c.args.index piece) = ap (λ (l : List ℕ). length l) (c.in_ok-septets.ensures.same ∙ is) in
    let many : c.len-maximum.result ≡ length pieces = omega (arith, c.len-maximum.ensures, c.deref.ensures.len, ap (λ (l : List (List ℕ)). length l) all) in
    let room = segment_has_room c.self.inside.tables c.self.inside.width c.args.reference c.len-maximum.result (c.args.index + 1) (length c.in_ok-septets.septets)
    (record { narrow = λ e. c.requires (sym (ap (λ (x : Cut). x.width) c.self.view_is) ∙ e); few = omega (arith, c.ranges.reference.fits); many = omega (arith, many, c.self.invariant.few); place = omega (arith, inside, c.self.invariant.few) })
    (λ e. omega (arith, same, at_index (λ (p : List ℕ). length p ≤ room_alone c.self.inside.tables) pieces c.args.index piece inside c.self.invariant.alone))
    (λ ne. omega (arith, same, at_index (λ (p : List ℕ). length p ≤ room_beside c.self.inside.width c.self.inside.tables) pieces c.args.index piece inside (c.self.invariant.beside (omega (arith, ne, many, c.self.invariant.some))))) in
    let header = sym (ap header_octets c.in_ok-header.ensures) in
    let there : HasRoomFor (header_octets c.in_ok-header.header) (length c.in_ok-septets.septets) = subst (λ (l : List ℕ). HasRoomFor l (length c.in_ok-septets.septets)) header room in
    (there.are, (there.fits, c.in_ok-septets.ensures.septets))
