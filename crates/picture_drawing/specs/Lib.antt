pub mod Bar
pub mod Draws
pub mod Heading
pub mod PictureText
