-- What the job program's text means, in the paper's words: how a number is spelled, the line of a job, the lines of an answer;
-- and, beside them, what the reader and the writer compute. Assumes nothing.
pub mod Numeral
pub mod Grammar
pub mod Scan
pub mod Held
pub mod Line
pub mod Put
pub mod Answer
