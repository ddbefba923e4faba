-- What is fetched of a peer.
use Rattle.std.specs.Prelude.{◌≡◌, ◌≤◌, ℕ, List, All, length, Option, IfSome, string_bytes}
use Rattle.std.specs.Global.{Vec}
use Rattle.key_order.specs.Text.{Text}
use Rattle.store_file.specs.Values.{bytes_of_value}
use Rattle.store_file.specs.declared.register.Register.{Register}
use Rattle.merkle_store.specs.Framing.{Streams}
use Rattle.merkle_store.specs.News.{AreTimely}
use Rattle.merkle_store.specs.Sessions.{CatchesUp, EntryContents}
use Rattle.merkle_store.specs.declared.fetching.Fetched.{Fetched}
use Rattle.merkle_store.specs.declared.fetching.Terms.{Terms}
use Rattle.merkle_store.specs.declared.traffic.Traffic.{Traffic}

-- the key, the writer and the value of an entry have 1 MiB each at most
pub record IsShortEntry (entry : Text × Register) : Type 0 where
  pub key : length (string_bytes entry.0) ≤ 1048576
  pub writer : length (string_bytes entry.1.writer) ≤ 1048576
  pub value : IfSome entry.1.value (λ value. length (bytes_of_value value) ≤ 1048576)

-- so many are no more than the most that there may be
abbrev pub IsAtMost : Option ℕ → ℕ → Type 0
IsAtMost most count = IfSome most (λ most. count ≤ most)

-- these entries came of a catch-up over the streams
abbrev pub EntriesCame : ℕ → EntryContents → Streams → Streams → Vec (Text × Register) × Traffic → Type 0
EntriesCame most replica before after came = CatchesUp replica most before after came.0.items

-- each of the entries is short, and none from the future
pub record AreFit (latest : ℕ) (entries : List (Text × Register)) : Type 0 where
  pub short : All IsShortEntry entries
  pub timely : AreTimely latest entries

-- the entries came of a catch-up over the streams, and are fit
pub record HasFetched (terms : Terms) (side : EntryContents) (before after : Streams) (fetched : Fetched) : Type 0 where
  pub caught_up : CatchesUp side terms.most_bytes before after fetched.came.items
  pub fit : AreFit terms.latest fetched.came.items
