pub mod Words
pub mod WordsCommands
