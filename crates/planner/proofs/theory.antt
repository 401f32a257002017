-- The whole answer of a call, each file on those above it: common divisors; what a test tells where it fails; the ways that an answer
-- comes about, and what each kind of answer was made from; refusal 15; which answer has which number; when 9 is given; the promises kept;
-- how large the fields get; the lent buffers.
pub mod Divisors
pub mod Passing
pub mod Ways
pub mod Lowest
pub mod Numbers
pub mod OddBoards
pub mod Kept
pub mod Small
pub mod Lending
