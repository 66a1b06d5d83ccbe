-- Options that a unit does not have.
use Rattle.std.specs.Prelude.{Bool, not, is_some, ◌||◌, ◌&&◌}
use Rattle.sms_encode.specs.declared.draft.Draft.{Draft}
use Rattle.sms_encode.specs.declared.draft.DraftKind.{DraftKind}
use Rattle.sms_encode.specs.declared.draft.DraftKind.TheVariants.{Deliver, Submit}

-- TP-MR, TP-RD or TP-VP is given, which only a submission has
abbrev pub has_of_submission : Draft → Bool
has_of_submission draft = is_some draft.reference || draft.reject || is_some draft.validity

-- what only the other kind has is given: of a delivery its stamp
abbrev pub has_of_other_kind : DraftKind → Draft → Bool
has_of_other_kind Deliver draft = has_of_submission draft
has_of_other_kind Submit draft = is_some draft.stamp

-- what only several segments have is given: the width of their reference, or the reference
abbrev pub has_of_segments : Draft → Bool
has_of_segments draft = draft.is_wide || is_some draft.concat_reference

abbrev pub has_wrong_option : Draft → Bool
has_wrong_option draft =
    has_of_other_kind draft.kind draft || (has_of_segments draft && not draft.is_split)
