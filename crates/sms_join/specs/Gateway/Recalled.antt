-- Whatever comes for others, and whichever limits it reaches, a recipient is answered as by a
-- joiner of its own as long as none of its pieces is turned away, and none comes again too late.
-- Lists have the newest entry first.
use Rattle.std.specs.Prelude.{◌≡◌, ◌≢◌, true, if◌then◌else◌, List, [], ◌∷◌, Option}
use Rattle.sms_field.specs.Address.Value.{AddressValue}
use Rattle.sms_join.specs.Key.{is_for}
use Rattle.sms_join.specs.Piece.{Piece}
use Rattle.sms_join.specs.Joiner.{Joiner, TooManyOpen, is_among}
use Rattle.sms_join.specs.Joiner.Acts.{Act, Brings, Ages}
use Rattle.sms_join.specs.Gateway.Value.{LimitsValue}
use Rattle.sms_join.specs.Gateway.Answers.{gateway_answer, gateway_holds}
use Rattle.sms_join.specs.Gateway.Recipients.{acts_for, AreUnderLimits}
use Rattle.sms_join.specs.Gateway.WithoutRecipient.{piece_alone}

-- The piece is not turned away, and its key is remembered where one would remember it to which the
-- offers of its recipient alone were brought.
pub record IsRecalled (limits : LimitsValue) (j own : Joiner) (p : Piece) : Type 0 where
  pub taken : gateway_answer limits j p ≢ TooManyOpen
  pub known : is_among own.finished p.key ≡ true → is_among j.finished p.key ≡ true

-- So it is of each piece of the recipient.
abbrev pub AreRecalled : LimitsValue → Option AddressValue → List (Act Piece) → Type 0
AreRecalled limits r [] = Unit {0}
AreRecalled limits r (Brings p ∷ acts) =
    (is_for r p.key ≡ true
    → IsRecalled limits (gateway_holds limits acts) (gateway_holds limits (acts_for r acts)) p)
    × AreRecalled limits r acts
AreRecalled limits r (Ages now ∷ acts) = AreRecalled limits r acts

-- The offers of the recipient, without it, and all agings.
abbrev pub acts_alone : Option AddressValue → List (Act Piece) → List (Act Piece)
acts_alone r [] = []
acts_alone r (Brings p ∷ acts) =
    if is_for r p.key then Brings (piece_alone p) ∷ acts_alone r acts else acts_alone r acts
acts_alone r (Ages now ∷ acts) = Ages now ∷ acts_alone r acts

-- Then the last piece of the recipient is answered as by one to which the offers of this recipient
-- alone were brought, without it.
abbrev pub AnswersRecalled : Type 0
AnswersRecalled =
    (limits : LimitsValue) (acts : List (Act Piece)) (p : Piece) (r : Option AddressValue)
    → AreRecalled limits r (Brings p ∷ acts) → is_for r p.key ≡ true
    → gateway_answer limits (gateway_holds limits acts) p
    ≡ gateway_answer limits (gateway_holds limits (acts_alone r acts)) (piece_alone p)

-- Where no offer reaches a limit, each recipient's are so.
abbrev pub LimitsRecall : Type 0
LimitsRecall =
    (limits : LimitsValue) (acts : List (Act Piece)) (r : Option AddressValue)
    → AreUnderLimits limits acts → AreRecalled limits r acts
