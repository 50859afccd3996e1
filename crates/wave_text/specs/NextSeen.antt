-- What the reader of a text says of its next byte.
use Rattle.wave_text.specs.declared.quotes.Seen.{Seen}
use Rattle.wave_text.specs.declared.quotes.Seen.TheVariants as s
use Rattle.wave_text.specs.Quotes.{Next, Byte, Close, Wrong}

abbrev pub next_of : Seen → Next
next_of (s.Byte b rest) = Byte b rest.now
next_of (s.Close rest) = Close rest.now
next_of s.Wrong = Wrong
