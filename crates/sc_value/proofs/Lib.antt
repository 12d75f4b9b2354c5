pub mod AgreementLaws
mod EntryLemmas
pub mod KindLaws
pub mod RangeLaws
pub mod ScopeLaws
mod ScopeLemmas
