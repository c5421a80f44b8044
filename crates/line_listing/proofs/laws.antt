-- What the order of the lines means, and what the lines and the counts are. Kept, Standing, Theorems: each stamp has one line, and where it stands; when a call
-- is answered. Worked: small runs. Lines: the line of a stamp that is not finite, and the parts that join to the whole. Longest: no line is longer than its
-- room. Joined, Listing: the parts of many calls are the whole listing. PartBytes, PartFits: a part has bytes exactly before the end, and not more than its
-- buffer. NotFinitePlaces, NotFinite: the number and the line of a stamp that is not finite by its bytes. NotFiniteCounted: which stamps are counted as not
-- finite. NoTextTold: what is told of an ordered stamp. RunCounts, RunLineCounts: the counts are those of the lines, and the head has their digits.
-- LinesOfListing: the listing's bytes by the places of its lines. ListingMade: when a listing is made. Counted: the counts of a run. Looks: what each bit of
-- the summary's look says. LookBits: what the bits for the table and for the names ask. RunEnds: the first and the last stamp of a run. LookNotFinite: what
-- the look says of a date that is not finite. SummaryDates: how the summary tells a date. SummaryLength: how long it can be. TakenBlocks, TakenRuns: the blocks
-- of a run that is written block by block, and what is taken of it. Cases, HeadCases, ListingCases, TakenCases, SummaryCases: worked by computation.
pub mod Kept
pub mod Standing
pub mod Theorems
pub mod Worked
pub mod Lines
pub mod Longest
pub mod Joined
pub mod Listing
pub mod PartBytes
pub mod PartFits
pub mod NotFinitePlaces
pub mod NotFinite
pub mod NotFiniteCounted
pub mod NoTextTold
pub mod RunCounts
pub mod RunLineCounts
pub mod LinesOfListing
pub mod ListingMade
pub mod ListingCases
pub mod Counted
pub mod Cases
pub mod HeadCases
pub mod TakenBlocks
pub mod TakenRuns
pub mod TakenCases
pub mod Looks
pub mod LookBits
pub mod RunEnds
pub mod LookNotFinite
pub mod SummaryDates
pub mod SummaryLength
pub mod SummaryCases
-- Right: all of it for the listing, whole.
pub mod Right
