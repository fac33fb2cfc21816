-- Where the three demands stand.
-- 1. Every call ends with an answer, whatever is handed in: no public function of `theora` has a `requires`. Sizes: Lengths (`theora`), and Sizes of `headers`.
--    A refusal, its number, and what it leaves: Call, `outcomeOf` and `byRules`.
-- 2. A frame is decoded as the paper says: Call, `FramePromise`, which is the contract of `theora::frame`.
-- 3. A list of calls: Demand, `Demand3Holds`.
pub mod Lengths
pub mod Room
pub mod Call
pub mod LeftBySetup
pub mod Demand
pub mod Places
pub mod Tokens
pub mod First
pub mod KeyFrames
