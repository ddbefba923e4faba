use Rattle.c_trees.proofs.Ranges.{one_list_of_digests, one_list_of_key_ranges, one_list_of_page_ranges, one_list_of_rows}
use Rattle.mst_c.proofs.laws.a_list_is_read_in_one_way.Goals as goal

pub returns : goal.returns
returns c = record {
  page_ranges = one_list_of_page_ranges;
  key_ranges = one_list_of_key_ranges;
  rows = λ bytes xs ys short is are. one_list_of_rows bytes xs ys short is.0 are.0;
  digests = λ bytes xs ys short is are. one_list_of_digests bytes xs ys short is.1 are.1 is.0 are.0;
}
