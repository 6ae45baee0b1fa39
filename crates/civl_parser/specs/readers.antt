-- How the code reads each phrase, with readers of civl_phrases. The grammar is the spelling of civl_tree. That these
-- readers read what it spells, and nothing else, is proved (proofs/), and `parse` says it of whole texts.
pub mod Programs
