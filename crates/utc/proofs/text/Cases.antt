-- Worked cases of document 01, and the years at the edges of a width, by computation. Assumes nothing.
use mathlib.Core.Path.{◌≡◌, refl}
use lib.IntN.{pos, negsuc}
use Rattle.utc.specs.text.Ascii.{ascii_bytes}
use Rattle.utc.specs.text.Text.{year_text, utc_text}
use Rattle.utc.specs.text.Expanded.{expanded_year}

pub leap-second : utc_text (record { year = pos 2016; month = 12; day = 31 }) (record { hour = 23; minute = 59; second = 60; milli = 0 })
    ≡ ascii_bytes "2016-12-31T23:59:60.000"
unfolding utc_text year_text
leap-second = refl

pub year-0 : year_text (pos 0) ≡ ascii_bytes "0000"
unfolding year_text
year-0 = refl

pub year-1-before : year_text (negsuc 0) ≡ ascii_bytes "-001"
unfolding year_text
year-1-before = refl

pub year-999-before : year_text (negsuc 998) ≡ ascii_bytes "-999"
unfolding year_text
year-999-before = refl

pub year-1000-before : year_text (negsuc 999) ≡ ascii_bytes "-1000"
unfolding year_text
year-1000-before = refl

pub year-9999 : year_text (pos 9999) ≡ ascii_bytes "9999"
unfolding year_text
year-9999 = refl

pub year-10000 : year_text (pos 10000) ≡ ascii_bytes "10000"
unfolding year_text
year-10000 = refl

pub year-last : year_text (pos 2733194) ≡ ascii_bytes "2733194"
unfolding year_text
year-last = refl

-- years as document 02's item 6 writes them
pub expanded-0 : expanded_year (pos 0) ≡ ascii_bytes "0000"
unfolding expanded_year
expanded-0 = refl

pub expanded-9999 : expanded_year (pos 9999) ≡ ascii_bytes "9999"
unfolding expanded_year
expanded-9999 = refl

pub expanded-12000 : expanded_year (pos 12000) ≡ ascii_bytes "+0012000"
unfolding expanded_year
expanded-12000 = refl

pub expanded-1-before : expanded_year (negsuc 0) ≡ ascii_bytes "-0000001"
unfolding expanded_year
expanded-1-before = refl
