-- What a reader must believe: RFC 3629 and document 01's sections "Lexemes", "Sentences", "Judgements", "Canonical text" and "Numbers
-- handed back", as definitions.
pub mod Choice
pub mod Utf8
pub mod Integers
pub mod Lexemes
pub mod Tokens
pub mod Canonical
pub mod Tables
pub mod Sentences
pub mod Values
pub mod Terms
pub mod Judgements
pub mod Findings
pub mod Numbers
pub mod Entries
-- What is proved of them: claims, and the words that these are said with. Nobody need believe more than what a claim says.
pub mod Grammar
pub mod Sound
pub mod Bounds
pub mod Follows
pub mod Counted
pub mod Rows
pub mod Names
pub mod Named
pub mod Slots
pub mod Checks
pub mod Numbered
pub mod Comparisons
pub mod Determined
pub mod Exactly
pub mod Left
pub mod Told
pub mod Samples
pub mod Worked
