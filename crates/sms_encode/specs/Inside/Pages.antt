-- Lines on a page.
use Rattle.std.specs.Prelude.{ℕ, false, List, []}
use Rattle.std.specs.List.{flat_map}
use Rattle.sms_join.specs.declared.segment.Segment.{Segment}
use Rattle.sms_page.specs.Page.{PageValue, Puts}
use Rattle.sms_encode.specs.declared.draft.Draft.{Draft}
use Rattle.sms_encode.specs.Drafts.{Encodes, line_of}
use Rattle.sms_encode.specs.Frames.{FrameValue}
use Rattle.sms_encode.specs.Units.{AreUnits}

-- The lines of the units of these segments come to the page, behind what stands there.
pub record PutsUnits (draft : Draft) (frame : FrameValue) (segments : List Segment)
    (page page_then : PageValue) : Type 0 where
  pub units : List (List ℕ)
  pub are_units : AreUnits draft frame 0 segments units
  pub puts : Puts page page_then (flat_map (line_of draft.is_for_modem frame.before) units)

-- What is encoded is put on an empty page.
pub record IsPageOf (draft : Draft) (page : PageValue) : Type 0 where
  pub text : List ℕ
  pub encodes : Encodes draft text
  pub puts : Puts (record { octets = []; is_cut = false }) page text
