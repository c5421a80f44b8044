-- The laws of the lines. Lengths: what is told of a stamp, and the longest line. Texts: what the calls that write a text left. Line: a line from its fields.
-- Pages: the UTC of a page of lines.
-- Whole: the lines of a part. ByStamp: the same with no page between.
pub mod Lengths
pub mod Texts
pub mod Line
pub mod Pages
pub mod Whole
pub mod ByStamp
