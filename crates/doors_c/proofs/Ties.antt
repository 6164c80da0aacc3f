-- The code of each export meets just what `demands` specs/DoorClaims.antt says of it, by the export's own theorem. Assumes nothing.
use Rattle.doors_c.proofs.wear_version as wear-version
use Rattle.doors_c.proofs.wear_read as wear-read
use Rattle.doors_c.proofs.wear_step as wear-step
use Rattle.doors_c.proofs.wear_entry as wear-entry
use Rattle.doors_c.proofs.wear_write as wear-write
use Rattle.doors_c.proofs.wear_rewrite as wear-rewrite
use Rattle.doors_c.proofs.wear_page_to_new as wear-page-to-new
use Rattle.doors_c.proofs.wear_page_to_old as wear-page-to-old
use Rattle.doors_c.proofs.wear_post as wear-post
use Rattle.doors_c.proofs.wear_feed as wear-feed
use Rattle.doors_c.specs.contracts.wear_version.{ended as wear_version_ended}
use Rattle.doors_c.specs.contracts.wear_read.{ended as wear_read_ended}
use Rattle.doors_c.specs.contracts.wear_step.{ended as wear_step_ended}
use Rattle.doors_c.specs.contracts.wear_entry.{ended as wear_entry_ended}
use Rattle.doors_c.specs.contracts.wear_write.{ended as wear_write_ended}
use Rattle.doors_c.specs.contracts.wear_rewrite.{ended as wear_rewrite_ended}
use Rattle.doors_c.specs.contracts.wear_page_to_new.{ended as wear_page_to_new_ended}
use Rattle.doors_c.specs.contracts.wear_page_to_old.{ended as wear_page_to_old_ended}
use Rattle.doors_c.specs.contracts.wear_post.{ended as wear_post_ended}
use Rattle.doors_c.specs.contracts.wear_feed.{ended as wear_feed_ended}
use Rattle.demands.specs.Claims.{MeetsJust}
use Rattle.demands.specs.DoorClaims.{door_versions, door_reads, door_steps, door_entries, door_writes, door_rewrites, door_turns_new, door_turns_old, door_posts, door_feeds}

pub door_version : MeetsJust wear_version_ended wear-version.Symbol.name wear-version.Symbol.code door_versions
door_version M = wear-version.Met.met

pub door_read : MeetsJust wear_read_ended wear-read.Symbol.name wear-read.Symbol.code door_reads
door_read M = wear-read.Met.met

pub door_step : MeetsJust wear_step_ended wear-step.Symbol.name wear-step.Symbol.code door_steps
door_step M = wear-step.Met.met

pub door_entry : MeetsJust wear_entry_ended wear-entry.Symbol.name wear-entry.Symbol.code door_entries
door_entry M = wear-entry.Met.met

pub door_write : MeetsJust wear_write_ended wear-write.Symbol.name wear-write.Symbol.code door_writes
door_write M = wear-write.Met.met

pub door_rewrite : MeetsJust wear_rewrite_ended wear-rewrite.Symbol.name wear-rewrite.Symbol.code door_rewrites
door_rewrite M = wear-rewrite.Met.met

pub door_to_new : MeetsJust wear_page_to_new_ended wear-page-to-new.Symbol.name wear-page-to-new.Symbol.code door_turns_new
door_to_new M = wear-page-to-new.Met.met

pub door_to_old : MeetsJust wear_page_to_old_ended wear-page-to-old.Symbol.name wear-page-to-old.Symbol.code door_turns_old
door_to_old M = wear-page-to-old.Met.met

pub door_post : MeetsJust wear_post_ended wear-post.Symbol.name wear-post.Symbol.code door_posts
door_post M = wear-post.Met.met

pub door_feed : MeetsJust wear_feed_ended wear-feed.Symbol.name wear-feed.Symbol.code door_feeds
door_feed M = wear-feed.Met.met
