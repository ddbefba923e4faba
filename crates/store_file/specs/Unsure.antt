-- What an `Unsure` shows.
use Rattle.store_file.specs.declared.unsure.Unsure.{Unsure}

-- the disk that calls are handed on to
abbrev pub disk_below : {D : Type 0} → Unsure D → D
disk_below u = u.inner
