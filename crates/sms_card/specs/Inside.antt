-- What a reader may pass by: no public contract cites it.
pub mod ByFirstLaws
pub mod FaultLaws
pub mod PaddingLaws
pub mod RecordLaws
pub mod ReportLaws
pub mod UnitLaws
