mod Added
mod Adding
mod AllFaultsLaws
mod Choices
mod EdgeValues
mod Elements
mod Faultless
mod Holding
mod HoldingMarks
mod LongMarks
mod Naming
pub mod NotesThere
mod Repeating
pub mod Sequences
pub mod ShortMeaning
mod Sound
mod TablesFaults
mod TimesEntries
