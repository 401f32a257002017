-- What the player means: an answer's number and place, the answer and the output of playing a list, and the same case by case in
-- terms of legal lists. No file has a proof. Assumes nothing.
pub mod Answers
pub mod Play
pub mod Cases
pub mod Run
