pub mod HeadRead
