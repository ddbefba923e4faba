-- What holds once a key is removed.
use Rattle.key_order.proofs.Dels.{del-set, has_key-del}
use Rattle.key_order.proofs.SameMaps.{same_map-own}
use Rattle.merkle_search_tree.proofs.Replays.{map_after-more, hashed_after-more}

-- a new key was set before
pub ruleset undo_rules = (del-set, same_map-own)

-- it is the last but one of the updates, after which the tree is hashed
pub ruleset history_rules = (map_after-more, hashed_after-more, has_key-del)
