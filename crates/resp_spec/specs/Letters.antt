-- How the text of a reply is shown: letters as they were sent, as capitals or as small ones, and CR and LF as spaces.
use Rattle.std.specs.Prelude.{ℕ, ◌+◌, ◌-◌, cond, ◌&&◌, leb}
use Rattle.resp_spec.specs.declared.Letters.{Letters}
use Rattle.resp_spec.specs.declared.Letters.TheVariants.{AsSent, Capitals, Small}
use Rattle.resp_spec.specs.Reply.{clean}

-- a small letter as its capital
abbrev pub upper : ℕ → ℕ
upper b = cond (leb 97 b && leb b 122) (b - 32) b

-- a capital as its small letter
abbrev pub lower : ℕ → ℕ
lower b = cond (leb 65 b && leb b 90) (b + 32) b

-- a letter as it is to be shown
abbrev pub letter_as : Letters → ℕ → ℕ
letter_as AsSent b = b
letter_as Capitals b = upper b
letter_as Small b = lower b

-- a byte of it, CR and LF as spaces
abbrev pub shown_as : Letters → ℕ → ℕ
shown_as letters b = clean (letter_as letters b)
